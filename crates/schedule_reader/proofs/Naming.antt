-- What the conditions so far name: observables of the lines so far, one at least.
use Rattle.std.proofs.Common.{◌≡◌, ◌≢◌, ℕ, zero, suc, ◌+◌, ◌*◌, ◌<◌, ◌≤◌, Bool, true, false, cond, List, [], ◌∷◌, ◌++◌, length, map, drop, refl, arith, codes, slice_index_or}
use Rattle.std.specs.Prelude.{if◌then◌else◌}
use Rattle.std.specs.List.{All, list_all}
use Rattle.std.proofs.lemmas.List.{length-append}
use Rattle.std.proofs.lemmas.List.Elements.{All-push}
use Rattle.surface_model.specs.Schedules.{CondLine}
use Rattle.surface_model.specs.Text.{TextLine, field, begins, has, seam_of}
use Rattle.surface_model.specs.Parse.{number_in, merge_line, read_line, cond_line}
use Rattle.schedule_reader.specs.Known.{Tables, with_line, with_names, names_in}
use Rattle.schedule_reader.proofs.Numbers.{and_left, and_right}
use Rattle.schedule_reader.proofs.Earlier.{apart, longer}
use Rattle.schedule_reader.proofs.Agreed.{Refers}
use Rattle.schedule_reader.proofs.Ranges.{number_below}

-- a merge gives two observables, and a reading one; each condition names some of them
pub record IsNaming (t : Tables) : Type 0 where
  pub count : length t.observables ≡ 2 * length t.merges + length t.reads
  pub some : All (λ (c : CondLine). c.labels ≢ []) t.conds
  pub known : All (λ (c : CondLine). All (λ l. l < length t.observables) c.labels) t.conds

grown : {X : Type 0} (P Q : X → Type 0) (xs : List X) (x : X) (b : Bool) → ((y : X) → P y → Q y) →
    All P xs → (b ≡ true → Q x) → All Q (if b then xs ++ x ∷ [] else xs)
grown P Q xs x true weak all new =
    All-push Q xs x (λ k d h. weak (slice_index_or xs k d) (all k d h)) (new refl)
grown P Q xs x false weak all new = λ k d h. weak (slice_index_or xs k d) (all k d h)

more_names : (os : List (List ℕ)) (a b : List ℕ) (m r : Bool) → (m ≡ true → r ≡ false) →
    length (if m then os ++ a ∷ b ∷ [] else if r then os ++ a ∷ [] else os)
    ≡ length os + (2 * cond m 1 0 + cond r 1 0)
more_names os a b true true x = absurd (let y = x refl in cc)
more_names os a b true false x = omega (arith, length-append os (a ∷ b ∷ []))
more_names os a b false true x = omega (arith, length-append os (a ∷ []))
more_names os a b false false x = omega arith

some_left : (f : List ℕ → ℕ) (fs : List (List ℕ)) → 4 < length fs → map f (drop 4 fs) ≢ []
some_left f [] h e = absurd (omega arith)
some_left f (a ∷ []) h e = absurd (omega arith)
some_left f (a ∷ b ∷ []) h e = absurd (omega arith)
some_left f (a ∷ b ∷ c ∷ []) h e = absurd (omega arith)
some_left f (a ∷ b ∷ c ∷ d ∷ []) h e = absurd (omega arith)
some_left f (a ∷ b ∷ c ∷ d ∷ g ∷ fs) h e = cc

numbers_below : (names fs : List (List ℕ)) → list_all (has names) fs ≡ true →
    All (λ n. n < length names) (map (number_in names) fs)
numbers_below names [] h k d l = absurd (omega arith)
numbers_below names (f ∷ fs) h zero d l =
    number_below names f (and_left (has names f) (list_all (has names) fs) h)
numbers_below names (f ∷ fs) h (suc k) d l =
    numbers_below names fs (and_right (has names f) (list_all (has names) fs) h) k d (omega arith)

pub naming_push : (t : Tables) (l : TextLine) → IsNaming t → Refers t l → IsNaming (with_line t l)
naming_push t l n r =
    let os = t.observables in
    let m = longer t.merges (merge_line (names_in t) l) (begins (codes "merge") l) in
    let d = longer t.reads (read_line (names_in t) l) (begins (codes "read") l) in
    let more = more_names os (field l 1) (seam_of (field l 1)) (begins (codes "merge") l)
    (begins (codes "read") l) (apart (codes "merge") (codes "read") l refl) in
    let long : length os ≤ length (with_names os l) = omega (arith, more) in
    record {
      count = omega (arith, n.count, m, d, more);
      some = grown (λ (c : CondLine). c.labels ≢ []) (λ (c : CondLine). c.labels
          ≢ []) t.conds (cond_line (names_in t) os l) (begins (codes "cond") l) (λ y h. h) n.some
          (λ h. some_left (number_in os) l.fields (r.enough h));
      known =
          grown (λ (c : CondLine). All (λ x. x < length os) c.labels) (λ (c : CondLine).
          All (λ x. x < length (with_names os l)) c.labels) t.conds
          (cond_line (names_in t) os l) (begins (codes "cond") l)
          (λ y h k e w. let low = h k e w in omega (arith, low, long)) n.known (λ h k e w. let low =
          numbers_below os (drop 4 l.fields) (r.labels h) k e w in omega (arith, low, long));
    }
