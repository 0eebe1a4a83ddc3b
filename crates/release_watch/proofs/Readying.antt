-- The last of an operation's raw slots has arrived exactly where each of them has.
use Rattle.std.proofs.Common.{◌≡◌, ◌≢◌, ℕ, ◌<◌, ◌&&◌, ◌==◌, Bool, true, false, nat_lt, max, fold, List, [], ◌∷◌, length, map, get_or, refl, sym, ap, ◌∙◌, arith, Option, Some, None, is_none, zero-add}
use Rattle.std.specs.List.{list_all}
use Rattle.std.proofs.lemmas.Bool.Decides.{nat_tests}
use Rattle.std.proofs.lemmas.List.FromFn.{get_or-map-range_with_len}
use Rattle.window_model.specs.Decoder.{Task, operation_at}
use Rattle.window_model.specs.Speculation.{Event}
use Rattle.cascade_laws.specs.MirrorLaws.{reached}
use Rattle.release_laws.specs.Tables.{ReleaseTable, bit_of, can_release}
use Rattle.poison_cascade.specs.Books.{IsLeast}
use Rattle.release_laws.proofs.Releasing.{first_release_law}
use Rattle.window_setting.specs.Slots.{last_raw, last_raws}
use Rattle.release_watch.specs.Watches.{ReadyLaw, FirstReadyLaw, IsReady}
use Rattle.graph_model.proofs.Truths.{and_assoc}

lesser : (a b n : ℕ) → nat_lt (max a b) n ≡ (nat_lt a n && nat_lt b n)
lesser a b n = grind (arith, nat_tests)

below_all : (f : ℕ → ℕ) (n a : ℕ) (xs : List ℕ) → nat_lt (fold max a (map f xs)) n ≡ nat_lt a n
    && list_all (λ l. nat_lt (f l) n) xs
below_all f n a [] = and_true (nat_lt a n)
  where
    and_true : (b : Bool) → b ≡ b && true
    and_true true = refl
    and_true false = refl
below_all f n a (x ∷ xs) =
    below_all f n (max a (f x)) xs
    ∙ ap (λ b. b && list_all (λ l. nat_lt (f l) n) xs) (lesser a (f x) n)
    ∙ and_assoc (nat_lt a n) (nat_lt (f x) n) (list_all (λ l. nat_lt (f l) n) xs)

greatest_below : (f : ℕ → ℕ) (n : ℕ) (xs : List ℕ) → xs ≢ [] →
    nat_lt (fold max 0 (map f xs)) n ≡ list_all (λ l. nat_lt (f l) n) xs
greatest_below f n [] some = absurd (some refl)
greatest_below f n (x ∷ xs) some = ap (λ a. nat_lt (fold max a (map f xs)) n) (omega arith)
    ∙ below_all f n (f x) xs

pub ready_law : ReadyLaw
ready_law task arrived op table setting l =
    let read : get_or (last_raws task) op 0 ≡ last_raw task op =
    get_or-map-range_with_len (last_raw task) 0 (length task.operations) op op 0 l (zero-add op) in
    ap (λ b. (is_none (bit_of table op) && (get_or table.missing op 0 == 0)) && b)
    (ap (λ n. nat_lt n arrived) read ∙ greatest_below (get_or_of task) arrived
    (operation_at task op).labels (setting.fit.operations.some op l))
  where
    get_or_of : Task → ℕ → ℕ
    get_or_of task n = get_or task.raw_slots n 0

-- the least by the one test is the least by the other
least_by : (P Q : ℕ → Type 0) → ((op : ℕ) → P op → Q op) → ((op : ℕ) → Q op → P op) →
    (found : Option ℕ) → IsLeast P found → IsLeast Q found
least_by P Q to from None none = λ op q. none op (from op q)
least_by P Q to from (Some op) least = (to op least.0, λ o l q. least.1 o l (from o q))

abbrev CanBe : Task → List Event → ReleaseTable → ℕ → Type 0
CanBe task events table op = (op < length task.operations)
    × (can_release task (reached task events).arrived table op ≡ true)

pub first_ready_law : FirstReadyLaw
first_ready_law task retries events table found setting is no_drop no_comparison no_commit least =
    first_release_law task retries events table found setting.fit.operations.named is no_drop
    no_comparison no_commit
    (least_by (IsReady task (reached task events) table) (CanBe task events table) to from found
    least)
  where
    to : (op : ℕ) → IsReady task (reached task events) table op → CanBe task events table op
    to op h =
        let many = is.each_missing in
        let within : op < length task.operations = omega (arith, h.0, many) in
        (within, sym (ready_law task (reached task events).arrived op table setting within) ∙ h.1)

    from : (op : ℕ) → CanBe task events table op → IsReady task (reached task events) table op
    from op h =
        let many = is.each_missing in (
          omega (arith, h.0, many),
          ready_law task (reached task events).arrived op table setting h.0
              ∙ h.1,
        )
