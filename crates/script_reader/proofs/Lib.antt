pub mod Cut
mod Due
mod Read
