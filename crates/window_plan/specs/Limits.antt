-- What a plan may have.
pub use Rattle.window_model.specs.Gates.{most_detectors, most_links, most_windows}
