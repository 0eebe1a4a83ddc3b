-- What one take took, by its answer.
use Rattle.std.proofs.Common.{◌≡◌, ℕ, List, [], ◌∷◌, ◌++◌, append-nil, refl, sym, subst}
use Rattle.std.specs.declared.option.Option.{Option}
use Rattle.port_io.specs.Port.{WhereTold, Leaves, Notes}
use Rattle.port_io.specs.Traffic.{Goes, IsAtEnd, taken, noted}
use Rattle.port_io.specs.declared.port.TapeByte.{TapeByte}
use Rattle.port_io.specs.declared.port.Take.{Take}
use Rattle.port_io.specs.declared.port.Take.TheVariants.{Byte, End, Failed}
use Rattle.std.proofs.lemmas.List.{map-append}
use Rattle.port_io.specs.declared.port.TapeByte.TheVariants.{Taken}
use Rattle.port_io.proofs.Traffic.{goes_both, goes_nothing, goes_taken, goes_take, at_end}

pub byte_taken : (r : Take) (byte other : ℕ) (a b : Option (List ℕ))
    (t u : Option (List TapeByte)) → r ≡ Byte byte → byte ≡ other → WhereTold (Leaves r) a b →
    WhereTold (Notes r) t u → Goes (taken (other ∷ [])) a b t u
byte_taken r byte other a b t u is same p q =
    subst (λ k. Goes (taken (k ∷ [])) a b t u) same
    (goes_taken [] (byte ∷ []) byte r a a b t t u (goes_nothing a t) p q is refl)

pub end_taken : (r : Take) (a b : Option (List ℕ)) (t u : Option (List TapeByte)) → r ≡ End →
    WhereTold (Leaves r) a b → WhereTold (Notes r) t u → Goes [] a b t u × IsAtEnd b
end_taken r a b t u is p q = (
  subst (λ k. Goes (noted k) a b t u) is (goes_take r a b t u p q),
  at_end a b (subst (λ k. WhereTold (Leaves k) a b) is p),
)

pub none_taken : (r : Take) (a b : Option (List ℕ)) (t u : Option (List TapeByte)) → r ≡ Failed →
    WhereTold (Leaves r) a b → WhereTold (Notes r) t u → Goes [] a b t u
none_taken r a b t u is p q = subst (λ k. Goes (noted k) a b t u) is (goes_take r a b t u p q)

pub bytes_joined : (xs ys : List ℕ) (a b c : Option (List ℕ)) (t u v : Option (List TapeByte)) →
    Goes (taken xs) a b t u → Goes (taken ys) b c u v → Goes (taken (xs ++ ys)) a c t v
bytes_joined xs ys a b c t u v p q =
    subst (λ l. Goes l a c t v) (sym (map-append Taken xs ys))
    (goes_both (taken xs) (taken ys) a b c t u v p q)

-- an end or a failure after bytes that were taken
pub end_behind : (bytes : List ℕ) (r : Take) (a b c : Option (List ℕ))
    (t u v : Option (List TapeByte)) → Goes (taken bytes) a b t u → r ≡ End →
    WhereTold (Leaves r) b c → WhereTold (Notes r) u v → Goes (taken bytes) a c t v × IsAtEnd c
end_behind bytes r a b c t u v first is p q =
    let went = end_taken r b c u v is p q in (
      subst (λ l. Goes l a c t v) (append-nil (taken bytes))
          (goes_both (taken bytes) [] a b c t u v first went.0),
      went.1,
    )

pub none_behind : (bytes : List ℕ) (r : Take) (a b c : Option (List ℕ))
    (t u v : Option (List TapeByte)) → Goes (taken bytes) a b t u → r ≡ Failed →
    WhereTold (Leaves r) b c → WhereTold (Notes r) u v → Goes (taken bytes) a c t v
none_behind bytes r a b c t u v first is p q =
    subst (λ l. Goes l a c t v) (append-nil (taken bytes))
    (goes_both (taken bytes) [] a b c t u v first (none_taken r b c u v is p q))
