-- The bits of a line, piece by piece.
use Rattle.std.proofs.Common.{◌≡◌, ℕ, ◌+◌, ◌<◌, ◌==◌, Bool, true, false, ◌||◌, refl, sym, ap, ◌∙◌, List, take, length, get_or}
use Rattle.std.specs.List.{list_any}
use Rattle.std.proofs.lemmas.List.Folds.{list_any_more}
use Rattle.surface_model.specs.Schedules.{MergeLine, ReadLine, Schedule}
use Rattle.surface_model.specs.Layout.{Region, region_of_patch, regions_at, split_slot}
use Rattle.surface_model.specs.Measurements.{Bit, bits_of_slot}
use Rattle.surface_model.specs.Accepted.{IsAccepted}
use Rattle.patch_layout.specs.Items.{merge_line, read_line}
use Rattle.patch_layout.specs.Regions.{seam_region}
use Rattle.timetable.specs.Times.{reads_at, splits_at}
use Rattle.timetable.proofs.Found.{any_numbers}
use Rattle.slot_bits.specs.Order.{IsRising, has_bit, is_readout_in, is_outcome_in}
use Rattle.slot_bits.specs.Lines.{in_read, in_split}
use Rattle.slot_bits.proofs.Lines.{line_is}
use Rattle.graph_model.proofs.Truths.{or_assoc}

pub gathered : {X : Type 0} (test : Bit → X → Bool) (start : Bit →
    Bool) (line next : List Bit) (xs : List X) (i : ℕ) (x : X) → i < length xs → x ≡ get_or xs i x →
    ((b : Bit) → has_bit line b ≡ start b || list_any (test b) (take i xs)) →
    ((b : Bit) → has_bit next b ≡ has_bit line b || test b x) →
    (b : Bit) → has_bit next b ≡ start b || list_any (test b) (take (i + 1) xs)
gathered test start line next xs i x l e h k b =
    k b ∙ ap (λ t. t || test b x) (h b)
    ∙ or_assoc (start b) (list_any (test b) (take i xs)) (test b x)
    ∙ ap (λ y. start b || (list_any (test b) (take i xs) || test b y)) e
    ∙ ap (λ t. start b || t) (sym (list_any_more (test b) xs i x l))

-- the line of a slot, from its pieces
pub slot_made : (s : Schedule) → IsAccepted s → (t : ℕ) (bits : List Bit) (regions : List Region) →
    IsRising bits → regions ≡ regions_at s t →
    ((b : Bit) →
    has_bit bits b
    ≡ (list_any (λ n. is_readout_in (region_of_patch s (read_line s n).patch) b) (reads_at s t)
    || list_any (λ n. is_readout_in (seam_region s (merge_line s n)) b) (splits_at s t))
    || list_any (λ r. is_outcome_in r b) regions) → bits ≡ bits_of_slot s t
slot_made s a t bits regions rising e h =
    line_is s a t bits rising
    (λ b. h b
    ∙ ap (λ x. (x || list_any (λ n. is_readout_in (seam_region s (merge_line s n)) b)
    (splits_at s t)) || list_any (λ r. is_outcome_in r b) regions)
    (any_numbers (λ (r : ReadLine). is_readout_in (region_of_patch s r.patch) b) _
    (λ (r : ReadLine). r.slot == t) s.reads)
    ∙ ap (λ x. (list_any (in_read s t b) s.reads || x) || list_any (λ r. is_outcome_in r b) regions)
    (any_numbers (λ (m : MergeLine). is_readout_in (seam_region s m) b) _
    (λ (m : MergeLine). split_slot m == t) s.merges)
    ∙ ap (λ rs. (list_any (in_read s t b) s.reads || list_any (in_split s t b) s.merges)
    || list_any (λ r. is_outcome_in r b) rs) e)
