-- The answers of committed windows, and certificates window by window.
use Rattle.std.proofs.Common.{◌≡◌, ◌<◌, ◌≤◌, ◌+◌, ℕ, true, false, List, [], ◌∷◌, ◌++◌, length, refl, sym, ap, ◌∙◌, subst, arith, Option, None, Some, option_map, unwrap_or, slice_index_or, map, flat_map, take, append-nil, ⊎_elim, All}
use Rattle.std.specs.Prelude.{ℤ, IsSome, IfSome}
use Rattle.std.proofs.lemmas.Bool.{cases_eq, false≢true}
use Rattle.std.proofs.lemmas.List.{get_or_append_left, length-append, take_more}
use Rattle.std.proofs.lemmas.List.Concat.{flat_map-append}
use Rattle.std.proofs.lemmas.List.Elements.{All-append, All-cons, All-nil, All-map}
use Rattle.std.proofs.lemmas.Option.{none-some, same_Some}
use Rattle.std.proofs.Math.Seq.{get_or-append_seam}
use Rattle.graph_model.specs.Problems.{Problem, Solves}
use Rattle.matching_model.specs.Certificates.{Certificate, IsOddSet, members}
use Rattle.matching_model.specs.Certified.{IsCertified}
use Rattle.window_model.specs.Speculation.{Phase, Waiting, Running, Held, Done, done, held_by, standing, result_of}
use Rattle.window_model.specs.TicketLaws.{IsSound}
use Rattle.window_model.specs.Windows.{window_count}
use Rattle.window_model.proofs.Soundness.{sound_law}
use Rattle.window_model.proofs.Tickets.{covered_law}
use Rattle.window_setting.proofs.Lawful.{laws_of}
use Rattle.cascade_laws.specs.Turns.{is_done}
use Rattle.report_model.specs.Logs.{IsLogNumber}
use Rattle.log_reader.specs.Steps.{AreEdges}
use Rattle.core_state.specs.States.{CoreTable, IsState, events_of, machine_of}
use Rattle.certified_lines.specs.Certified.{IsLine, IsNumber, Vertex, Whole}
use Rattle.certified_log.specs.Texts.{IsCertificateOf, certificate_lines, set_line}
use Rattle.certified_log.specs.Shown.{AreSoFar, IsOfWindow, IsShort, certificate_at}

pub done_is : (phase : Phase) (k : ℕ) → done phase ≡ Some k → phase ≡ Done k
done_is Waiting k e = absurd (none-some k e)
done_is (Running j) k e = absurd (none-some k e)
done_is (Held j) k e = absurd (none-some k e)
done_is (Done j) k e = ap Done (same_Some j k e)

-- the ticket of a committed window stands
pub done_standing : (phase : Phase) → is_done phase ≡ true → standing phase ≡ done phase
done_standing Waiting e = refl
done_standing (Running k) e = refl
done_standing (Held k) e = absurd (false≢true e)
done_standing (Done k) e = refl

pub not_done : (phase : Phase) → is_done phase ≡ false → None ≡ done phase
not_done Waiting e = refl
not_done (Running k) e = refl
not_done (Held k) e = refl
not_done (Done k) e = absurd (false≢true (sym e))

pub not_committed : (f : ℕ → List ℕ) (phase : Phase) → None ≡ option_map f (done phase) →
    is_done phase ≡ true → ⊥
not_committed f Waiting e d = false≢true d
not_committed f (Running k) e d = false≢true d
not_committed f (Held k) e d = false≢true d
not_committed f (Done k) e d = none-some (f k) e

some_result : (o : Option (List ℕ)) → IsSome o → o ≡ Some (unwrap_or o [])
some_result None some = absurd (false≢true some)
some_result (Some set) some = refl

module _ (c : CoreTable) (h : IsState c) where
  sound : IsSound c.task (machine_of c)
  sound = sound_law c.task c.retries (events_of c) (laws_of c.task h.setting) h.history

  module _ (w k : ℕ) (is : done ((machine_of c).phase w) ≡ Some k) where
    abbrev phase : (machine_of c).phase w ≡ Done k
    phase = done_is ((machine_of c).phase w) k is

    pub ticket_in : k < (machine_of c).tickets
    ticket_in = (sound.current w k (ap held_by phase)).0

    pub claim_window : ((machine_of c).claim k).window ≡ w
    claim_window = (sound.current w k (ap held_by phase)).1

    pub window_in : w < window_count c.task.plan
    window_in = subst (λ x. x < window_count c.task.plan) claim_window
        (covered_law c.task c.retries (events_of c) k (laws_of c.task h.setting) h.history
        ticket_in).in_range

    pub answer_is : (r : Option (List ℕ)) → r ≡ ((machine_of c).claim k).result →
        r ≡ option_map (result_of (machine_of c)) (done ((machine_of c).phase w))
    answer_is r e =
        e ∙ some_result ((machine_of c).claim k).result (sound.least w k (ap standing phase)).0
        ∙ sym (ap (option_map (result_of (machine_of c))) is)

-- ---- the whole set of a window

pub whole_some : (o : Option (List ℕ)) (set : List ℕ) → Some set ≡ o → unwrap_or o [] ≡ set
whole_some o set e = ap (λ p. unwrap_or p []) (sym e)

pub whole_none : (o : Option (List ℕ)) → None ≡ o → unwrap_or o [] ≡ []
whole_none o e = ap (λ p. unwrap_or p []) (sym e)

-- ---- the certificates

pub none_yet : (c : CoreTable) → AreSoFar c 0 []
none_yet c = record { each_window = refl; each = λ w l. absurd (omega (arith, l)) }

pub one_more : (c : CoreTable) (n : ℕ) (certs : List (Option Certificate))
    (cert : Option Certificate) → AreSoFar c n certs → IsOfWindow c n cert →
    AreSoFar c (n + 1) (certs ++ cert ∷ [])
one_more c n certs cert h is = record {
  each_window = longer;
  each = λ w l. ⊎_elim (λ (e : w ≡ n). subst (IsOfWindow c w)
      (sym (at_end w e)) (subst (λ x. IsOfWindow c x cert) (sym e) is))
      (λ (ne : w ≡ n → ⊥). let low : w < n = omega (arith, l, ne) in
      subst (IsOfWindow c w) (sym (before w low)) (h.each w low)) (cases_eq w n);
}
  where
    longer : length (certs ++ cert ∷ []) ≡ n + 1
    longer = length-append certs (cert ∷ []) ∙ ap (λ m. m + 1) h.each_window

    at_end : (w : ℕ) → w ≡ n → certificate_at (certs ++ cert ∷ []) w ≡ cert
    at_end w e = ap (λ x. slice_index_or (certs ++ cert ∷ []) x None) (e ∙ sym h.each_window)
        ∙ get_or-append_seam certs cert [] None

    before : (w : ℕ) → w < n → certificate_at (certs ++ cert ∷ []) w ≡ certificate_at certs w
    before w l = get_or_append_left certs (cert ∷ []) None w
        (subst (λ m. w < m) (sym h.each_window) l)

-- ---- the lines of a certificate

sets_are : (n : ℕ) (sets : List (List ℕ × ℤ)) → All (IsOddSet n) sets →
    All (λ (s : List ℕ × ℤ). IsNumber s.1) sets →
    All (λ (s : List ℕ × ℤ). All IsLogNumber s.0) sets →
    All IsLine (map set_line sets)
sets_are n sets odd numbers small =
    All-map IsLine set_line sets (λ i d l. let o = odd i d l in record {
      short = numbers i d l;
      positive = o.positive;
      members_in = record { each = small i d l; rising = o.ascending };
      odd = o.odd;
    })

pub without : (problem : Problem) (set : List ℕ) → Solves problem set → AreEdges set →
    IsCertificateOf problem set None
without problem set least edges = record {
  least = least;
  certified = λ c e. absurd (none-some c e);
  few = λ c e. absurd (none-some c e);
  lines = All-cons IsLine (Whole set) [] edges (All-nil IsLine);
}

certified_so : (problem : Problem) (set : List ℕ) (c : Certificate) → Solves problem set →
    AreEdges set → IsCertified problem set c → IsShort c → IsCertificateOf problem set (Some c)
certified_so problem set c least edges is short = record {
  least = least;
  certified = λ d e. subst (IsCertified problem set) (same_Some c d e) is;
  few = λ d e. subst (λ (k : Certificate). length k.sets ≤ length k.vertex) (same_Some c d e)
      short.few;
  lines = All-cons IsLine (Whole set) (certificate_lines (Some c)) edges
      (All-cons IsLine (Vertex c.vertex) (map set_line c.sets) short.vertex
      (sets_are (length (members problem)) c.sets is.fits.dual.odd_sets short.numbers
      short.members_in));
}

pub with_certificate : (problem : Problem) (set : List ℕ) (cert : Certificate)
    (found : Option Certificate) → Solves problem set → AreEdges set →
    IsCertified problem set cert → IfSome found (λ c. (c ≡ cert) × IsShort c) →
    IsCertificateOf problem set found
with_certificate problem set cert None least edges is short = without problem set least edges
with_certificate problem set cert (Some c) least edges is short =
    certified_so problem set c least edges (subst (IsCertified problem set) (sym short.0) is)
    short.1

-- ---- lists that are looked at from the front

module _ {X : Type 0} (P : X → Type 0) (xs : List X) (i : ℕ) (d : X) (low : i < length xs) where
  pub all_more : All P (take i xs) → P (slice_index_or xs i d) → All P (take (i + 1) xs)
  all_more all p = subst (All P) (sym (take_more xs i d low))
      (All-append P (take i xs) (slice_index_or xs i d ∷ []) all
      (All-cons P (slice_index_or xs i d) [] p (All-nil P)))

pub all_flat_more : {X Y : Type 0} (P : Y → Type 0) (f : X → List Y) (xs : List X) (i : ℕ) (d : X) →
    i < length xs → All P (flat_map f (take i xs)) → All P (f (slice_index_or xs i d)) →
    All P (flat_map f (take (i + 1) xs))
all_flat_more P f xs i d low all p =
    subst (All P) (sym (ap (flat_map f) (take_more xs i d low)
    ∙ flat_map-append f (take i xs) (slice_index_or xs i d ∷ [])
    ∙ ap (λ ys. flat_map f (take i xs) ++ ys) (append-nil (f (slice_index_or xs i d)))))
    (All-append P (flat_map f (take i xs)) (f (slice_index_or xs i d)) all p)
