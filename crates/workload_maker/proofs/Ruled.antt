-- The schedule of a made header breaks no rule.
use Rattle.std.proofs.Common.{◌≡◌, ◌≤◌, ◌<◌, ℕ, zero, suc, ◌+◌, ◌-◌, ◌*◌, ◌/◌, ◌%◌, ◌==◌, Bool, true, false, not, ◌&&◌, ◌||◌, nat_le, nat_lt, if◌then◌else◌, List, [], map, option_map, is_some, Some, None, refl, ap, ◌∙◌, arith}
use Rattle.std.specs.List.{list_any, range_with_len}
use Rattle.std.proofs.lemmas.Bool.{and_from, eq-eqb, le-leb, lt-ltb, ltb-true, leb-true, ne_eqb, or_from, or_left}
use Rattle.std.proofs.lemmas.Bool.Decides.{nat_tests}
use Rattle.std.proofs.lemmas.List.FromFn.{get_or-map-range_with_len, length-map-range_with_len}
use Rattle.surface_model.specs.Limits.{most_patches}
use Rattle.surface_model.specs.Layout.{patch_at, split_slot}
use Rattle.surface_model.specs.Layout as layout
use Rattle.surface_model.specs.declared.RuleFault.TheVariants.{BadCond, BadLife, MergeOutsideLife, MergesTouch, Missing, NotNeighbours, TileTaken}
use Rattle.surface_model.specs.declared.Basis.TheVariants.{Z}
use Rattle.surface_model.specs.Rules.{are_neighbours, breaking, has_repeats, in_life, init_of, of_life, read_of, rule_fault, same_tile, share_a_patch, share_a_slot}
use Rattle.surface_model.specs.Schedules.{PatchLine, InitLine, MergeLine, ReadLine, CondLine, Schedule}
use Rattle.workload_maker.specs.Headers.{AreMakeable, cond_count, merge_count, merge_label, patch_name}
use Rattle.workload_maker.proofs.Earlier.{cond_label, read_label}
use Rattle.workload_maker.proofs.Found.{find_in_range, none_breaks, none_numbered}
use Rattle.workload_maker.proofs.Naming.{none_in_range}
use Rattle.workload_maker.proofs.Sound.{few_conds, few_merges}

-- ---- the lines of a made schedule, whose first line of their kind has this number

abbrev pub made_patch : ℕ → ℕ → PatchLine
made_patch at i = record { line = at + i; name = patch_name i; row = i / 8; column = i % 8 }

abbrev pub made_init : ℕ → ℕ → InitLine
made_init at i = record { line = at + i; patch = i; basis = Z; slot = 0 }

abbrev pub made_merge : ℕ → ℕ → ℕ → MergeLine
made_merge d at i = record {
  line = at + i;
  label = merge_label i;
  one = 2 * i;
  two = 2 * i + 1;
  slot = d + 1;
  count = d;
}

abbrev pub made_read : ℕ → ℕ → ℕ → ReadLine
made_read l at i = record {
  line = at + i;
  label = read_label i;
  patch = i;
  basis = Z;
  slot = l - 1;
}

abbrev pub made_cond : ℕ → (ℕ → List ℕ) → ℕ → ℕ → CondLine
made_cond d labels at i = record {
  line = at + i;
  label = cond_label i;
  patch = 2 * i;
  slot = 5 * (d + 1);
  labels = labels i;
}

abbrev pub schedule_with : (distance space time rounds : ℕ) → List PatchLine → List InitLine →
    List MergeLine → List ReadLine → List CondLine → Schedule
schedule_with distance space time rounds patches inits merges reads conds = record {
  distance = distance;
  space = space;
  time = time;
  patches = patches;
  inits = inits;
  merges = merges;
  reads = reads;
  conds = conds;
  rounds_line = rounds;
}

-- a made schedule: `starts` has the number of the first line of each kind
pub record Starts : Type 0 where
  pub patches : ℕ
  pub inits : ℕ
  pub merges : ℕ
  pub reads : ℕ
  pub conds : ℕ

abbrev pub made_schedule : (distance space time rounds : ℕ) (d n l : ℕ) → Starts →
    (ℕ → List ℕ) → Schedule
made_schedule distance space time rounds d n l starts labels =
    schedule_with distance space time rounds
    (map (made_patch starts.patches) (range_with_len 0 n))
    (map (made_init starts.inits) (range_with_len 0 n))
    (map (made_merge d starts.merges) (range_with_len 0 (merge_count d n l)))
    (map (made_read l starts.reads) (range_with_len 0 n))
    (map (made_cond d labels starts.conds) (range_with_len 0 (cond_count d n l)))

-- ---- lives

itself : (p : ℕ) → (p == p) ≡ true
itself p = eq-eqb p p refl

init_is : (x y z r d n l : ℕ) (starts : Starts) (labels : ℕ → List ℕ) (p : ℕ) → p < n →
    init_of (made_schedule x y z r d n l starts labels) p ≡ Some 0
init_is x y z r d n l starts labels p small =
    ap (option_map (λ (line : InitLine). line.slot))
    (find_in_range (λ (line : InitLine). line.patch == p) (made_init starts.inits) n p small
    (λ j m. ne_eqb j p (λ e. omega (arith, e, m))) (itself p))

read_is : (x y z r d n l : ℕ) (starts : Starts) (labels : ℕ → List ℕ) (p : ℕ) → p < n →
    read_of (made_schedule x y z r d n l starts labels) p ≡ Some (l - 1)
read_is x y z r d n l starts labels p small =
    ap (option_map (λ (line : ReadLine). line.slot))
    (find_in_range (λ (line : ReadLine). line.patch == p) (made_read l starts.reads) n p small
    (λ j m. ne_eqb j p (λ e. omega (arith, e, m))) (itself p))

life_is : (x y z r d n l : ℕ) (starts : Starts) (labels : ℕ → List ℕ) (test : ℕ → ℕ → Bool)
    (p : ℕ) → p < n →
    of_life (made_schedule x y z r d n l starts labels) test p ≡ test 0 (l - 1)
life_is x y z r d n l starts labels test p small =
    ap (λ o. in_life test o (read_of (made_schedule x y z r d n l starts labels) p))
    (init_is x y z r d n l starts labels p small)
    ∙ ap (in_life test (Some 0)) (read_is x y z r d n l starts labels p small)

-- ---- no rule is broken

own_tile : (at i j : ℕ) → i < most_patches → j < most_patches →
    (nat_lt (at + j) (at + i) && (i / 8 == j / 8 && i % 8 == j % 8)) ≡ false
own_tile at i j p q = grind (arith, nat_tests)

tiles : (x y z r d n l : ℕ) (starts : Starts) (labels : ℕ → List ℕ) → AreMakeable d n l →
    breaking (made_schedule x y z r d n l starts labels) TileTaken ≡ []
tiles x y z r d n l starts labels h =
    let few = h.few in
    let made = made_patch starts.patches in
    let all = map made (range_with_len 0 n) in
    none_breaks (λ (a : PatchLine). a.line)
    (λ a. list_any (λ b. nat_lt b.line a.line && same_tile a b) all) made n (λ i p.
    none_in_range (λ b. nat_lt b.line (made i).line && same_tile (made i) b) made n (λ j q.
    own_tile starts.patches i j (omega (arith, p, few)) (omega (arith, q, few))))

lives : (x y z r d n l : ℕ) (starts : Starts) (labels : ℕ → List ℕ) → AreMakeable d n l →
    breaking (made_schedule x y z r d n l starts labels) BadLife ≡ []
lives x y z r d n l starts labels h =
    let two = h.two_slots in
    none_breaks (λ (line : ReadLine). line.line)
    (λ line. not (of_life (made_schedule x y z r d n l starts labels) nat_lt line.patch))
    (made_read l starts.reads) n (λ i p.
    ap not (life_is x y z r d n l starts labels nat_lt i p
    ∙ lt-ltb 0 (l - 1) (omega (arith, two))))

same_row : (i : ℕ) → 2 * i / 8 ≡ (2 * i + 1) / 8
same_row i = omega arith

next_column : (i : ℕ) → 2 * i % 8 + 1 ≡ (2 * i + 1) % 8
next_column i = omega arith

beside : (at i : ℕ) → are_neighbours (made_patch at (2 * i)) (made_patch at (2 * i + 1)) ≡ true
beside at i =
    let row = same_row i in
    let column = next_column i in
    or_left (2 * i / 8 == (2 * i + 1) / 8
    && (2 * i % 8 + 1 == (2 * i + 1) % 8 || (2 * i + 1) % 8 + 1 == 2 * i % 8))
    (2 * i % 8 == (2 * i + 1) % 8
    && (2 * i / 8 + 1 == (2 * i + 1) / 8 || (2 * i + 1) / 8 + 1 == 2 * i / 8))
    (and_from (2 * i / 8 == (2 * i + 1) / 8)
    (2 * i % 8 + 1 == (2 * i + 1) % 8 || (2 * i + 1) % 8 + 1 == 2 * i % 8)
    (eq-eqb (2 * i / 8) ((2 * i + 1) / 8) row)
    (or_left (2 * i % 8 + 1 == (2 * i + 1) % 8) ((2 * i + 1) % 8 + 1 == 2 * i % 8)
    (eq-eqb (2 * i % 8 + 1) ((2 * i + 1) % 8) column)))

patch_is : (x y z r d n l : ℕ) (starts : Starts) (labels : ℕ → List ℕ) (p : ℕ) → p < n →
    patch_at (made_schedule x y z r d n l starts labels) p ≡ made_patch starts.patches p
patch_is x y z r d n l starts labels p small =
    get_or-map-range_with_len (made_patch starts.patches) 0 n p p layout.no_patch small
    (omega arith)

neighbours : (x y z r d n l : ℕ) (starts : Starts) (labels : ℕ → List ℕ) →
    breaking (made_schedule x y z r d n l starts labels) NotNeighbours ≡ []
neighbours x y z r d n l starts labels =
    let s = made_schedule x y z r d n l starts labels in
    let m = merge_count d n l in
    none_breaks (λ (line : MergeLine). line.line)
    (λ line. not (are_neighbours (patch_at s line.one) (patch_at s line.two)))
    (made_merge d starts.merges) m (λ i p.
    let within = few_merges d n l i p in
    let one = patch_is x y z r d n l starts labels (2 * i) (omega (arith, within)) in
    let two = patch_is x y z r d n l starts labels (2 * i + 1) within in
    ap (λ a. not (are_neighbours a (patch_at s (2 * i + 1)))) one
    ∙ ap (λ b. not (are_neighbours (made_patch starts.patches (2 * i)) b)) two
    ∙ ap not (beside starts.patches i))

-- the merges are split before the last slot
merged_within : (d n l i : ℕ) → i < merge_count d n l → d + 1 + d < l - 1
merged_within d n l i p = by (nat_lt (2 * d + 1) (l - 1)) refl p
  where
    by : (t : Bool) → nat_lt (2 * d + 1) (l - 1) ≡ t → i < (if t then n / 2 else 0) →
        d + 1 + d < l - 1
    by true e q = let less = ltb-true (2 * d + 1) (l - 1) e in omega (arith, less)
    by false e q = absurd (omega (arith, q))

inside : (x y z r d n l : ℕ) (starts : Starts) (labels : ℕ → List ℕ) →
    breaking (made_schedule x y z r d n l starts labels) MergeOutsideLife ≡ []
inside x y z r d n l starts labels =
    let s = made_schedule x y z r d n l starts labels in
    let m = merge_count d n l in
    let within_life = λ (merge : MergeLine) (first last : ℕ).
    nat_lt first merge.slot && nat_lt (split_slot merge) last in
    let test = λ (first last : ℕ). nat_lt first (d + 1) && nat_lt (d + 1 + d) last in
    none_breaks (λ (line : MergeLine). line.line)
    (λ line. not (of_life s (within_life line) line.one && of_life s (within_life line) line.two))
    (made_merge d starts.merges) m (λ i p.
    let within = few_merges d n l i p in
    let split = merged_within d n l i p in
    let holds : test 0 (l - 1) ≡ true = and_from (nat_lt 0 (d + 1)) (nat_lt (d + 1 + d) (l - 1))
    (lt-ltb 0 (d + 1) (omega arith)) (lt-ltb (d + 1 + d) (l - 1) split) in
    ap not (and_from (of_life s test (2 * i)) (of_life s test (2 * i + 1))
    (life_is x y z r d n l starts labels test (2 * i) (omega (arith, within)) ∙ holds)
    (life_is x y z r d n l starts labels test (2 * i + 1) within ∙ holds)))

apart : (at i j : ℕ) (slot : Bool) →
    (nat_lt (at + j) (at + i) && (2 * i == 2 * j || 2 * i == 2 * j + 1 || 2 * i + 1 == 2 * j
    || 2 * i + 1 == 2 * j + 1) && slot) ≡ false
apart at i j slot = grind (arith, nat_tests)

touching : (x y z r d n l : ℕ) (starts : Starts) (labels : ℕ → List ℕ) →
    breaking (made_schedule x y z r d n l starts labels) MergesTouch ≡ []
touching x y z r d n l starts labels =
    let m = merge_count d n l in
    let made = made_merge d starts.merges in
    let all = map made (range_with_len 0 m) in
    none_breaks (λ (a : MergeLine). a.line)
    (λ a. list_any (λ b. nat_lt b.line a.line && share_a_patch a b && share_a_slot a b) all) made m
    (λ i p. none_in_range (λ b. nat_lt b.line (made i).line && share_a_patch (made i) b
    && share_a_slot (made i) b) made m (λ j q.
    apart starts.merges i j (share_a_slot (made i) (made j))))

-- the conditions stand before the last slot
cond_within : (d n l i : ℕ) → i < cond_count d n l → 5 * (d + 1) ≤ l - 1
cond_within d n l i p = by (nat_le (5 * d + 6) l) refl p
  where
    by : (t : Bool) → nat_le (5 * d + 6) l ≡ t → i < (if t then n / 2 else 0) →
        5 * (d + 1) ≤ l - 1
    by true e q = let less = leb-true (5 * d + 6) l e in omega (arith, less)
    by false e q = absurd (omega (arith, q))

conditions : (x y z r d n l : ℕ) (starts : Starts) (labels : ℕ → List ℕ) →
    ((i : ℕ) → i < cond_count d n l → has_repeats (labels i) ≡ false) →
    breaking (made_schedule x y z r d n l starts labels) BadCond ≡ []
conditions x y z r d n l starts labels once =
    let s = made_schedule x y z r d n l starts labels in
    let c = cond_count d n l in
    let slot = 5 * (d + 1) in
    none_breaks (λ (line : CondLine). line.line)
    (λ line. has_repeats line.labels
    || not (of_life s (λ first last. nat_le first line.slot && nat_le line.slot last) line.patch))
    (made_cond d labels starts.conds) c (λ i p.
    let pair = few_merges d n l i (few_conds d n l i p) in
    let test = λ (first last : ℕ). nat_le first (5 * (d + 1)) && nat_le (5 * (d + 1)) last in
    let before = cond_within d n l i p in
    or_from (has_repeats (labels i)) (not (of_life s test (2 * i))) (once i p)
    (ap not (life_is x y z r d n l starts labels test (2 * i) (omega (arith, pair))
    ∙ and_from (nat_le 0 (5 * (d + 1))) (nat_le (5 * (d + 1)) (l - 1))
    (le-leb 0 (5 * (d + 1)) (omega arith)) (le-leb (5 * (d + 1)) (l - 1) before))))

complete : (x y z r d n l : ℕ) (starts : Starts) (labels : ℕ → List ℕ) → AreMakeable d n l →
    breaking (made_schedule x y z r d n l starts labels) Missing ≡ []
complete x y z r d zero l starts labels h = let some = h.some in absurd (omega (arith, some))
complete x y z r d (suc n) l starts labels h =
    let s = made_schedule x y z r d (suc n) l starts labels in
    let long = length-map-range_with_len (made_patch starts.patches) 0 (suc n) in
    ap (map (λ (line : PatchLine). line.line))
    (none_numbered (λ p. not (is_some (init_of s p) && is_some (read_of s p))) 0 s.patches (λ k p.
    let within : k < suc n = omega (arith, p, long) in
    ap (λ o. not (is_some o && is_some (read_of s k)))
    (init_is x y z r d (suc n) l starts labels k within)
    ∙ ap (λ o. not (is_some o)) (read_is x y z r d (suc n) l starts labels k within)))

pub ruled : (x y z r d n l : ℕ) (starts : Starts) (labels : ℕ → List ℕ) → AreMakeable d n l →
    ((i : ℕ) → i < cond_count d n l → has_repeats (labels i) ≡ false) →
    rule_fault (made_schedule x y z r d n l starts labels) ≡ None
ruled x y z r d n l starts labels h once =
    let h1 = tiles x y z r d n l starts labels h in
    let h2 = lives x y z r d n l starts labels h in
    let h3 = neighbours x y z r d n l starts labels in
    let h4 = inside x y z r d n l starts labels in
    let h5 = touching x y z r d n l starts labels in
    let h6 = conditions x y z r d n l starts labels once in
    let h7 = complete x y z r d n l starts labels h in
    rw (h1, h2, h3, h4, h5, h6, h7) refl
