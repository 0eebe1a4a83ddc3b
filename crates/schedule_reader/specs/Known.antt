-- What the lines so far give, and the fault of the next line against it.
use Rattle.std.specs.Prelude.{ℕ, ◌+◌, Bool, true, not, ◌&&◌, ◌||◌, ◌==◌, nat_le, if◌then◌else◌, List, [], ◌∷◌, ◌++◌, length, map, codes, Option, Some, None, ◌≡◌, ◌<◌, slice_index_or}
use Rattle.surface_model.specs.Limits.{most_labels, most_patches}
use Rattle.surface_model.specs.Schedules.{PatchLine, InitLine, MergeLine, ReadLine, CondLine, Schedule}
use Rattle.surface_model.specs.Text.{TextLine, is_name, is_number, seam_of, LineFault, BadLine, BadNumber, UnknownName, Repeated, BadDistance, TooMany, field, begins, has, has_shape, all_fields, is_well_formed, is_in_range, is_in_place, is_of_many, is_bad_distance}
use Rattle.surface_model.specs.declared.FieldKind.{FieldKind}
use Rattle.surface_model.specs.declared.FieldKind.TheVariants.{NewPatch, OldPatch, NewLabel, OldObservable}
use Rattle.surface_model.specs.Parse.{number_at, patch_line, init_line, merge_line, read_line, cond_line}
use Rattle.schedule_reader.specs.declared.line.LineKind.{LineKind}
use Rattle.schedule_reader.specs.declared.line.LineKind.TheVariants.{Swiper, Distance as AtDistance, Weights as AtWeights, Patch, Init, Merge, Read, Cond, Rounds}
use Rattle.schedule_reader.specs.declared.known.Place.{Place}
use Rattle.schedule_reader.specs.declared.known.Place.TheVariants.{Version, Distance, Weights, Body}
use Rattle.schedule_reader.specs.declared.known.Check.{Check}
use Rattle.schedule_reader.specs.declared.known.Check.TheVariants.{Form, Range, Name, New}

pub record Tables : Type 0 where
  pub place : Place
  pub last_line : ℕ
  pub distance : ℕ
  pub space : ℕ
  pub time : ℕ
  pub patches : List PatchLine
  pub inits : List InitLine
  pub merges : List MergeLine
  pub reads : List ReadLine
  pub conds : List CondLine
  -- the names of the patches that are prepared and read, and of the observables
  pub prepared : List (List ℕ)
  pub measured : List (List ℕ)
  pub observables : List (List ℕ)

-- how many lines stand before, up to three
abbrev pub rank_of : Place → ℕ
rank_of Version = 0
rank_of Distance = 1
rank_of Weights = 2
rank_of Body = 3

abbrev pub next_place : Place → Place
next_place Version = Distance
next_place Distance = Weights
next_place Weights = Body
next_place Body = Body

abbrev pub names_in : Tables → List (List ℕ)
names_in t = map (λ (p : PatchLine). p.name) t.patches

abbrev pub labels_in : Tables → List (List ℕ)
labels_in t = map (λ (m : MergeLine). m.label) t.merges ++ map (λ (r : ReadLine). r.label) t.reads
    ++ map (λ (c : CondLine). c.label) t.conds

abbrev pub is_known_in : Tables → FieldKind → List ℕ → Bool
is_known_in t OldPatch f = has (names_in t) f
is_known_in t OldObservable f = has t.observables f
is_known_in t _ f = true

abbrev pub is_new_in : Tables → FieldKind → List ℕ → Bool
is_new_in t NewPatch f = not (has (names_in t) f)
is_new_in t NewLabel f = not (has (labels_in t) f)
is_new_in t _ f = true

abbrev pub is_repeated_in : Tables → TextLine → Bool
is_repeated_in t line =
    (begins (codes "init") line && has t.prepared (field line 1))
    || (begins (codes "read") line && has t.measured (field line 2))

abbrev pub many_in : Tables → ℕ
many_in t = length t.merges + length t.reads + length t.conds

abbrev pub is_too_many_in : Tables → TextLine → Bool
is_too_many_in t line = (begins (codes "patch") line && nat_le most_patches (length t.patches))
    || (is_of_many line && nat_le most_labels (many_in t))

-- the four tests of each field
abbrev pub test_of : Tables → Check → FieldKind → List ℕ → Bool
test_of t Form kind f = is_well_formed kind f
test_of t Range kind f = is_in_range kind f
test_of t Name kind f = is_known_in t kind f
test_of t New kind f = is_new_in t kind f

-- the faults of a line that is no first line, by their order
abbrev pub fault_after_first : Tables → TextLine → Option LineFault
fault_after_first t line =
    if not (has_shape line && all_fields (test_of t Form) line) then Some BadLine
    else if not (all_fields (test_of t Range) line) then Some BadNumber
    else if not (all_fields (test_of t Name) line) then Some UnknownName
    else if not (all_fields (test_of t New) line) || is_repeated_in t line then Some Repeated
    else if is_bad_distance line then Some BadDistance
    else if is_too_many_in t line then Some TooMany
    else None

abbrev pub fault_in : Tables → Bool → TextLine → Option LineFault
fault_in t followed line =
    if not (is_in_place (rank_of t.place) followed line) then Some BadLine
    else if rank_of t.place == 0 then None
    else fault_after_first t line

abbrev pub with_names : List (List ℕ) → TextLine → List (List ℕ)
with_names names l =
    if begins (codes "merge") l then names ++ field l 1 ∷ seam_of (field l 1) ∷ []
    else if begins (codes "read") l then names ++ field l 1 ∷ []
    else names

-- one more item, where the line gives one
abbrev pub with_item : Tables → TextLine → Tables
with_item t l = record t {
  distance = (if begins (codes "distance") l then number_at l 1 else t.distance);
  space = (if begins (codes "weights") l then number_at l 1 else t.space);
  time = (if begins (codes "weights") l then number_at l 2 else t.time);
  patches = (if begins (codes "patch") l then t.patches ++ patch_line l ∷ [] else t.patches);
  inits = (if begins (codes "init") l then t.inits ++ init_line (names_in t) l ∷ [] else t.inits);
  merges = (if begins (codes "merge") l then t.merges ++ merge_line (names_in t) l ∷ []
      else t.merges);
  reads = (if begins (codes "read") l then t.reads ++ read_line (names_in t) l ∷ [] else t.reads);
  conds = (if begins (codes "cond") l then t.conds ++ cond_line (names_in t) t.observables l ∷ []
      else t.conds);
  prepared = (if begins (codes "init") l then t.prepared ++ field l 1 ∷ [] else t.prepared);
  measured = (if begins (codes "read") l then t.measured ++ field l 2 ∷ [] else t.measured);
  observables = with_names t.observables l;
}

abbrev pub with_line : Tables → TextLine → Tables
with_line t l = record (with_item t l) { place = next_place t.place; last_line = l.number }

abbrev pub no_tables : Tables
no_tables = record {
  place = Version;
  last_line = 0;
  distance = 0;
  space = 0;
  time = 0;
  patches = [];
  inits = [];
  merges = [];
  reads = [];
  conds = [];
  prepared = [];
  measured = [];
  observables = [];
}

abbrev pub schedule_in : Tables → Schedule
schedule_in t = record {
  distance = t.distance;
  space = t.space;
  time = t.time;
  patches = t.patches;
  inits = t.inits;
  merges = t.merges;
  reads = t.reads;
  conds = t.conds;
  rounds_line = t.last_line;
}

-- what an item needs of the fields after the first, and of the room
abbrev pub names_at : List (List ℕ) → ℕ → Type 0
names_at fields k = is_name (slice_index_or fields k []) ≡ true

abbrev pub counts_at : List (List ℕ) → ℕ → Type 0
counts_at fields k = is_number (slice_index_or fields k []) ≡ true

abbrev pub is_fit : Tables → LineKind → List (List ℕ) → Type 0
is_fit t Swiper fs = Unit {0}
is_fit t AtDistance fs = counts_at fs 0
is_fit t AtWeights fs = counts_at fs 0 × counts_at fs 1
is_fit t Patch fs = names_at fs 0 × counts_at fs 1 × counts_at fs 2
    × (length t.patches < most_patches)
is_fit t Init fs = names_at fs 0 × counts_at fs 2
is_fit t Merge fs = names_at fs 0 × counts_at fs 3 × counts_at fs 4 × (many_in t < most_labels)
is_fit t Read fs = names_at fs 0 × names_at fs 1 × counts_at fs 3 × (many_in t < most_labels)
is_fit t Cond fs = names_at fs 0 × counts_at fs 2 × (many_in t < most_labels)
is_fit t Rounds fs = Unit {0}
