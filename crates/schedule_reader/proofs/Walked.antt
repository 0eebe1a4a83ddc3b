-- What reading a text line by line gives.
use Rattle.std.proofs.Common.{◌≡◌, ℕ, suc, ◌-◌, ◌≤◌, Bool, true, false, eqb, List, [], ◌∷◌, length, get_or, refl, ap, sym, ◌∙◌, arith}
use Rattle.std.proofs.Math.Dec.{eqb-suc-zero}
use Rattle.std.specs.Prelude.{if◌then◌else◌, Option, Some, None, option_map}
use Rattle.surface_model.specs.Text.{ends_with_feed, is_empty, is_skipped, fields_of, LineFault, BadLine}
use Rattle.schedule_reader.specs.declared.fault.FaultKind.{FaultKind}
use Rattle.schedule_reader.specs.Faults.{reported_kind, reported}
use Rattle.schedule_reader.specs.Known.{Tables, fault_in, with_line}
use Rattle.schedule_reader.specs.Pieces.{lines_of, others}
use Rattle.schedule_reader.specs.Walks.{text_line, fault_at, is_bad_line, judged_in, and_taken}
use Rattle.schedule_reader.proofs.Pieces.{first_line}

pub ends_is : (xs : List ℕ) → 1 ≤ length xs → ends_with_feed xs
    ≡ eqb (get_or xs (length xs - 1) 0) 10
ends_is [] h = absurd (omega arith)
ends_is (x ∷ []) h = refl
ends_is (x ∷ y ∷ xs) h = ends_is (y ∷ xs) (omega arith)
    ∙ ap (λ n. eqb (get_or (x ∷ y ∷ xs) n 0) 10) step
  where
    step : suc (length (y ∷ xs) - 1) ≡ length (x ∷ y ∷ xs) - 1
    step = omega arith

pub lines_none : (xs : List ℕ) → is_empty (lines_of xs) ≡ eqb (length xs) 0
lines_none [] = refl
lines_none (x ∷ xs) = ap is_empty (first_line (x ∷ xs) (λ e. absurd (cc)))
    ∙ sym (eqb-suc-zero (length xs))

-- ---- the fault that is reported

pub reported_fault : (n : ℕ) (found : Option LineFault) (kind : FaultKind) →
    option_map reported_kind found ≡ Some kind → option_map reported (fault_at n found)
    ≡ Some (record { line = n; kind = kind })
reported_fault n None kind h = absurd (cc)
reported_fault n (Some k) kind h =
    ap (option_map (λ (x : FaultKind). record { line = n; kind = x })) h

pub reported_none : (found : Option LineFault) → option_map reported_kind found ≡ None →
    found ≡ None
reported_none None h = refl
reported_none (Some k) h = absurd (cc)

pub judged_bad : (whole : Bool) (t : Tables) (rest : List (List ℕ)) (bytes : List ℕ) →
    is_bad_line whole rest bytes ≡ true → judged_in whole t rest bytes ≡ Some BadLine
judged_bad whole t rest bytes b = ap (λ x. if x then Some BadLine else if is_skipped bytes then None
    else fault_in t (others rest) (text_line 0 bytes)) b

pub judged_skipped : (whole : Bool) (t : Tables) (rest : List (List ℕ)) (bytes : List ℕ) →
    is_bad_line whole rest bytes ≡ false → is_skipped bytes ≡ true → judged_in whole t rest bytes
    ≡ None
judged_skipped whole t rest bytes b s =
    ap (λ x. if x then Some BadLine else if is_skipped bytes then None
    else fault_in t (others rest) (text_line 0 bytes)) b
    ∙ ap (λ x. if x then None else fault_in t (others rest) (text_line 0 bytes)) s

pub judged_counted : (whole : Bool) (t : Tables) (rest : List (List ℕ)) (bytes : List ℕ)
    (fs : List (List ℕ)) → is_bad_line whole rest bytes ≡ false → is_skipped bytes ≡ false →
    fs ≡ fields_of bytes
    → fault_in t (others rest) (record { number = 0; fields = fs }) ≡ judged_in whole t rest bytes
judged_counted whole t rest bytes fs b s e =
    ap (λ f. fault_in t (others rest) (record { number = 0; fields = f })) e
    ∙ sym (ap (λ x. if x then Some BadLine
    else if is_skipped bytes then None else fault_in t (others rest) (text_line 0 bytes)) b
    ∙ ap (λ x. if x then None else fault_in t (others rest) (text_line 0 bytes)) s)

pub taken_counted : (t : Tables) (n : ℕ) (bytes : List ℕ) (fs : List (List ℕ)) → is_skipped bytes
    ≡ false → fs ≡ fields_of bytes → with_line t (record { number = n; fields = fs })
    ≡ and_taken t n bytes
taken_counted t n bytes fs s e = ap (λ f. with_line t (record { number = n; fields = f })) e
    ∙ sym (ap (λ x. if x then t else with_line t (text_line n bytes)) s)
