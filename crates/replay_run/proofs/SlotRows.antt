-- The reading of the rows that a script follows, slot by slot.
use Rattle.std.proofs.Common.{◌≡◌, ◌≤◌, ◌+◌, ◌++◌, ℕ, zero, suc, Bool, List, [], ◌∷◌, inl, inr, Some, length, refl, sym, ap, subst, ◌∙◌, append_assoc, append-nil, length-append, slice_get}
use Rattle.std.specs.declared.option.Option.{Option}
use Rattle.detector_graph.specs.declared.folded.Folded.{Folded}
use Rattle.port_io.specs.Traffic.{Goes, taken}
use Rattle.port_io.specs.declared.port.TapeByte.{TapeByte}
use Rattle.port_io.proofs.Traffic.{goes_nothing}
use Rattle.port_io.proofs.Takings.{bytes_joined}
use Rattle.surface_model.specs.Schedules.{Schedule}
use Rattle.surface_model.specs.Layout.{last_slot}
use Rattle.measure_map.specs.Placed.{before_slot}
use Rattle.run_rounds.specs.Courses.{AreFed}
use Rattle.run_rounds.specs.Fed.{AreAllFed, AreUnfed, IsSlotFed, IsSlotUnfed}
use Rattle.run_rounds.specs.Slots.{AreFolds, At, at_first, next_at}
use Rattle.run_rounds.proofs.Courses.{before_next, before_stays, one_longer, row_stays}
use Rattle.run_rounds.proofs.Fed.{fed_more, fed_start, unfed_by}
use Rattle.syndrome_source.specs.declared.error.RowError.{RowError}
use Rattle.syndrome_source.specs.declared.error.RowError.TheVariants.{Memory}
use Rattle.replay_run.specs.Playings.{AreReadTo}
use Rattle.replay_run.specs.Readings.{AreFolded, IsFoldOf}
use Rattle.replay_run.proofs.Items.{one_of}

none_there : (t : ℕ) (folded : Folded) → slice_get [] t ≡ Some folded → ⊥
none_there zero folded e = cc
none_there (suc t) folded e = cc

pub read_start : (s : Schedule) (left : Option (List ℕ)) (tape : Option (List TapeByte)) →
    AreReadTo (at_first s) left left tape tape []
read_start s left tape = record {
  bytes = [];
  rows = [];
  goes = goes_nothing left tape;
  fed = fed_start s;
  each_slot = refl;
  before_is = refl;
  each_item = refl;
  gives = λ more t folded e. absurd (none_there t folded e);
}

-- the values that a slot's row gives, whatever rows follow
gives_more : (at : At) (row : List Bool) (rows : List (List Bool)) (items : List Folded)
    (f : Folded) → length rows ≡ at.slot → at.before ≡ before_slot rows at.slot →
    length items ≡ at.slot → AreFolds at row f.defects f.raws → f.slot ≡ at.slot →
    ((more : List (List Bool)) (t : ℕ) (folded : Folded) → slice_get items t ≡ Some folded →
    IsFoldOf at.schedule (rows ++ more) t folded) →
    (more : List (List Bool)) (t : ℕ) (folded : Folded) →
    slice_get (items ++ f ∷ []) t ≡ Some folded →
    IsFoldOf at.schedule ((rows ++ row ∷ []) ++ more) t folded
gives_more at row rows items f each before_is each_item folds slot gives more t folded e =
    subst (λ l. IsFoldOf at.schedule l t folded) (sym (append_assoc rows (row ∷ []) more))
    (elim (one_of items f t folded e) [
      | inl there ↦ gives (row ∷ more) t folded there
      | inr last ↦
          let all = rows ++ row ∷ more in
          let here = folds all (before_is ∙ before_stays rows (row ∷ more) at.slot each)
          (row_stays rows more row at.slot each) in
          subst (λ g. IsFoldOf at.schedule all t g) last.1
          (subst (λ n. IsFoldOf at.schedule all n f) (sym (last.0 ∙ each_item))
          (record { slot = slot; defects = here.0; raws = here.1 }))
    ])

read_row : (at : At) (row : List Bool) (more : List ℕ) (items : List Folded) (f : Folded)
    (a b c : Option (List ℕ)) (t u v : Option (List TapeByte)) → AreReadTo at a b t u items →
    at.slot ≤ last_slot at.schedule → IsSlotFed at (next_at at row) f.defects f.raws b c u v →
    f.slot ≡ at.slot → AreReadTo (next_at at row) a c t v (items ++ f ∷ [])
read_row at row more items f a b c t u v so_far within read slot =
    let same : read.row ≡ row = ap (λ (n : At). n.before) (sym read.next) in
    let is_row = read.is_row in
    record {
      bytes = so_far.bytes ++ read.bytes;
      rows = so_far.rows ++ row ∷ [];
      goes = bytes_joined so_far.bytes read.bytes _ _ _ _ _ _ so_far.goes read.goes;
      fed = subst (λ r. AreFed at.schedule (at.slot + 1) (so_far.bytes ++ read.bytes)
          (so_far.rows ++ r ∷ [])) same
          (fed_more at.schedule at.slot so_far.bytes read.bytes so_far.rows read.row c within
          so_far.fed is_row);
      each_slot = one_longer so_far.rows row at.slot so_far.each_slot;
      before_is = before_next so_far.rows row at.slot so_far.each_slot;
      each_item = length-append items (f ∷ []) ∙ ap (λ n. n + 1) so_far.each_item;
      gives = gives_more at row so_far.rows items f so_far.each_slot so_far.before_is
          so_far.each_item (subst (λ r. AreFolds at r f.defects f.raws) same read.folds) slot
          so_far.gives;
    }

-- one slot more
pub read_more : (old new : At) (items : List Folded) (f : Folded) (a b c : Option (List ℕ))
    (t u v : Option (List TapeByte)) → AreReadTo old a b t u items →
    old.slot ≤ last_slot old.schedule → IsSlotFed old new f.defects f.raws b c u v →
    f.slot ≡ old.slot → AreReadTo new a c t v (items ++ f ∷ [])
read_more old new items f a b c t u v so_far within read slot =
    subst (λ n. AreReadTo n a c t v (items ++ f ∷ [])) (sym read.next)
    (read_row old read.row read.bytes items f a b c t u v so_far within
    (subst (λ n. IsSlotFed old n f.defects f.raws b c u v) read.next read) slot)

-- the slot was not read
pub read_no_more : (at : At) (items : List Folded) (bytes : List ℕ) (error : RowError)
    (a b c : Option (List ℕ)) (t u v : Option (List TapeByte)) → AreReadTo at a b t u items →
    at.slot ≤ last_slot at.schedule → Goes (taken bytes) b c u v →
    IsSlotUnfed at c bytes error → (all : List ℕ) × (rows : List (List Bool))
    × Goes (taken all) a c t v × ((error ≡ Memory → ⊥) → AreUnfed at.schedule all c rows error)
read_no_more at items bytes error a b c t u v so_far within goes unfed = (
  so_far.bytes ++ bytes,
  so_far.rows,
  bytes_joined so_far.bytes bytes _ _ _ _ _ _ so_far.goes goes,
  λ other. unfed_by at so_far.bytes bytes so_far.rows c error within so_far.fed unfed other,
)

-- all slots were read
pub read_all : (at : At) (items : List Folded) (a b : Option (List ℕ))
    (t u : Option (List TapeByte)) → AreReadTo at a b t u items →
    at.slot ≡ last_slot at.schedule + 1 → (bytes : List ℕ) × (rows : List (List Bool))
    × Goes (taken bytes) a b t u × AreAllFed at.schedule bytes rows
    × AreFolded at.schedule rows items
read_all at items a b t u so_far all = (
  so_far.bytes,
  so_far.rows,
  so_far.goes,
  subst (λ n. AreFed at.schedule n so_far.bytes so_far.rows) all so_far.fed,
  record {
    each = so_far.each_item ∙ all;
    gives = λ n folded e. subst (λ l. IsFoldOf at.schedule l n folded) (append-nil so_far.rows)
        (so_far.gives [] n folded e);
  },
)
