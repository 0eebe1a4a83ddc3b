-- What each event does to the table.
use Rattle.std.proofs.Common.{◌≡◌, ℕ, zero, suc, ◌<◌, ⊎_elim, true, List, [], ◌∷◌, ◌++◌, refl, sym, ap, ◌∙◌, subst, length, get_or, set, replicate, arith, Some, None, is_none, is_some, option_map}
use Rattle.std.proofs.lemmas.Bool.{cases_eq}
use Rattle.std.proofs.lemmas.List.{get_or-set_same, get_or-set_other, length-set, length-replicate}
use Rattle.std.proofs.lemmas.List.FromFn.{get_or-map-range_with_len, length-map-range_with_len}
use Rattle.window_model.specs.Decoder.{Task, Step, Release, Decoder, start as begun_decoder, after, after_all, needs, owned_part}
use Rattle.window_model.specs.Laws.{PlanLaws}
use Rattle.window_model.specs.Windows.{window_count}
use Rattle.window_model.specs.Speculation.{Machine, Event, Arrived, Claimed, Returned, Stale, Verified, Poisoned, Dropped, Committed, Released, done, start, happens, happen_all, decoder_of, result_of, visible_step, visible_from, IsEnabled, IsHistory}
use Rattle.graph_model.specs.Graph.{is_in}
use Rattle.graph_model.proofs.Members.{all_within}
use Rattle.window_model.proofs.Plans.{in_below}
use Rattle.window_model.proofs.Updates.{set_same, set_other}
use Rattle.window_model.proofs.Histories.{history_push}
use Rattle.window_model.proofs.Simulation.{shown_law}
use Rattle.window_model.proofs.Quiet.{filter_apart}
use Rattle.pauli_frame.proofs.Following.{commit_law, begun}
use Rattle.cascade_laws.specs.MirrorLaws.{reached}
use Rattle.release_laws.specs.Tables.{IsTableFor, bit_of, waiting_for, with_bit}
use Rattle.release_laws.specs.TableLaws.{NoneReleasedLaw, TakenWindowLaw, ReleasedTableLaw, StillMissingLaw, LeftReleasesLaw}
use Rattle.release_laws.proofs.Counting.{open_in, fewer_open, tally}

-- ---- what shows of one more event

all_append : (d : Decoder) (xs ys : List Step) → after_all d (xs ++ ys)
    ≡ after_all (after_all d xs) ys
all_append d [] ys = refl
all_append d (x ∷ xs) ys = all_append (after d x) xs ys

after_push : (task : Task) (d : Decoder) (m : Machine) (events : List Event) (event : Event) →
    after_all d (visible_from task m (events ++ event ∷ [])) ≡ after_all (after_all d
    (visible_from task m events)) (visible_step task (happen_all task m events) event)
after_push task d m [] event = all_append d (visible_step task m event) []
after_push task d m (e ∷ es) event =
    all_append d (visible_step task m e) (visible_from task (happens task m e) (es ++ event ∷ []))
    ∙ after_push task (after_all d (visible_step task m e)) (happens task m e) es event
    ∙ ap (λ x. after_all x (visible_step task (happen_all task (happens task m e) es) event))
    (sym (all_append d (visible_step task m e) (visible_from task (happens task m e) es)))

decoder_next : (task : Task) (retries : ℕ) (events : List Event) (event : Event) →
    PlanLaws task.graph task.tags task.plan → IsHistory task retries events →
    IsEnabled task retries (reached task events) event →
    decoder_of task (reached task (events ++ event ∷ [])) ≡ after_all
    (decoder_of task (reached task events)) (visible_step task (reached task events) event)
decoder_next task retries events event laws h may =
    sym (shown_law task retries (events ++ event ∷ []) laws (history_push task retries start events
    event h may))
    ∙ after_push task begun_decoder start events event
    ∙ ap (λ d. after_all d (visible_step task (reached task events) event))
    (shown_law task retries events laws h)

-- ---- the events

never : (n op : ℕ) → bit_of (record { missing = []; bits = replicate n None; frame = [] }) op ≡ None
never zero op = refl
never (suc n) zero = refl
never (suc n) (suc op) = never n op

all_open : (xs : List ℕ) → open_in begun_decoder.kept xs ≡ length xs
all_open [] = refl
all_open (x ∷ xs) = ap suc (all_open xs)

pub none_released_law : NoneReleasedLaw
none_released_law task labels = record {
  each_missing =
      length-map-range_with_len (λ op. length (needs task op)) 0 (length task.operations);
  each_bit = length-replicate (length task.operations) None;
  missing = λ op l. get_or-map-range_with_len (λ o. length (needs task o)) 0
      (length task.operations) op op 0 l (omega arith) ∙ sym (all_open (needs task op));
  bit = λ op l. never (length task.operations) op;
  frame = begun task labels;
}

not_done : (task : Task) (m : Machine) (w : ℕ) → done (m.phase w) ≡ None →
    (decoder_of task m).kept w ≡ None
not_done task m w e = ap (option_map (λ k. owned_part task w (result_of m k))) e

pub taken_window_law : TakenWindowLaw
taken_window_law task retries events old new k w laws h is may takes =
    subst (λ d. IsTableFor task d new)
    (sym (decoder_next task retries events (Committed k w) laws h may)) (record {
      each_missing = takes.each_missing ∙ is.each_missing;
      each_bit = ap length takes.bits ∙ is.each_bit;
      missing = λ op l. let a = takes.fewer op l in let b = is.missing op l in
          let c = fewer_open d.kept w part (ap is_none open_) (needs task op)
          (filter_apart _ 0 (window_count task.plan)) in omega (arith, a, b, c);
      bit = λ op l. ap (λ bits. get_or bits op None) takes.bits ∙ is.bit op l;
      frame = commit_law task d w part old.frame new.frame may.in_range (ap is_some open_) is.frame
          takes.frame;
    })
  where
    d : Decoder
    d = decoder_of task (reached task events)

    part : List ℕ
    part = owned_part task w (result_of (reached task events) k)

    open_ : d.kept w ≡ None
    open_ = not_done task (reached task events) w (ap done may.held)

pub still_missing_law : StillMissingLaw
still_missing_law task events table k w is may = all_within
    (λ op. (op < length table.missing) × (0 < get_or table.missing op 0)) (waiting_for task w) each
  where
    open_ : (decoder_of task (reached task events)).kept w ≡ None
    open_ = not_done task (reached task events) w (ap done may.held)

    each : (op : ℕ) → is_in (waiting_for task w) op ≡ true →
        (op < length table.missing) × (0 < get_or table.missing op 0)
    each op m =
        let b = in_below (λ o. is_in (needs task o) w) (length task.operations) op m in
        let many = is.each_missing in
        let a = is.missing op b.0 in
        let c = fewer_open (decoder_of task (reached task events)).kept w [] (ap is_none open_)
        (needs task op)
        (filter_apart _ 0 (window_count task.plan)) in
        let t : tally (is_in (needs task op) w) ≡ 1 = ap tally b.1 in
        (omega (arith, many, b.0), omega (arith, a, c, t))

pub released_table_law : ReleasedTableLaw
released_table_law task retries events table op bit laws h is may = (
  within,
  subst (λ e. IsTableFor task e (with_bit table op bit))
      (sym (decoder_next task retries events (Released op bit) laws h may)) (record {
        each_missing = is.each_missing;
        each_bit = length-set table.bits op (Some bit) ∙ is.each_bit;
        missing = is.missing;
        bit = λ o l. ⊎_elim
            (λ e. ap (λ i. get_or (set table.bits op (Some bit)) i None) e ∙ get_or-set_same
            table.bits op (Some bit) None within ∙ sym (set_same d.released op (Some bit))
            ∙ ap (λ i. (after d (Release op bit)).released i) (sym e))
            (λ ne. get_or-set_other table.bits op o (Some bit) None ne ∙ is.bit o l
            ∙ sym (set_other d.released op (Some bit) o ne)) (cases_eq o op);
        frame = is.frame;
      }),
)
  where
    d : Decoder
    d = decoder_of task (reached task events)

    within : op < length table.bits
    within = let same = is.each_bit in let l = may.in_range in omega (arith, same, l)

pub left_releases_law : LeftReleasesLaw
left_releases_law task retries events table (Arrived t values raws) laws h is may left =
    subst (λ d. IsTableFor task d table)
    (sym (decoder_next task retries events (Arrived t values raws) laws h may))
    (record {
      each_missing = is.each_missing;
      each_bit = is.each_bit;
      missing = is.missing;
      bit = is.bit;
      frame = is.frame;
    })
left_releases_law task retries events table (Claimed k w links) laws h is may left = subst (λ d.
    IsTableFor task d table) (sym (decoder_next task retries events (Claimed k w links) laws h may))
    is
left_releases_law task retries events table (Returned k edges) laws h is may left = subst (λ d.
    IsTableFor task d table) (sym (decoder_next task retries events (Returned k edges) laws h may))
    is
left_releases_law task retries events table (Stale k) laws h is may left = subst (λ d.
    IsTableFor task d table) (sym (decoder_next task retries events (Stale k) laws h may)) is
left_releases_law task retries events table (Verified x w) laws h is may left = subst (λ d.
    IsTableFor task d table) (sym (decoder_next task retries events (Verified x w) laws h may)) is
left_releases_law task retries events table (Poisoned x w) laws h is may left = subst (λ d.
    IsTableFor task d table) (sym (decoder_next task retries events (Poisoned x w) laws h may)) is
left_releases_law task retries events table (Dropped w) laws h is may left = subst (λ d.
    IsTableFor task d table) (sym (decoder_next task retries events (Dropped w) laws h may)) is
left_releases_law task retries events table (Committed k w) laws h is may left = absurd left
left_releases_law task retries events table (Released op bit) laws h is may left = absurd left
