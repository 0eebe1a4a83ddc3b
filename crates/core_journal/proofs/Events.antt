-- What stays of a history where more is kept.
use Rattle.std.proofs.Common.{◌≡◌, ℕ, ◌+◌, ◌<◌, ◌==◌, Bool, true, List, [], ◌∷◌, ◌++◌, refl, sym, ap, ◌∙◌, map, length, get_or, set, arith, Some, None, IsSome, is_some, All, unwrap_or, slice_index, eqb-true}
use Rattle.std.specs.List.{range_with_len}
use Rattle.std.proofs.lemmas.Bool.{and_parts, false_from_ne_true, false≢true}
use Rattle.std.proofs.lemmas.List.{map-append, length-append, get_or-set_same, get_or-set_other}
use Rattle.std.proofs.Math.ListN.{get_or-append}
use Rattle.std.proofs.Math.Seq.{get_or-append_seam}
use Rattle.std.proofs.lemmas.List.Elements.{All-append, All-cons, All-nil, All-head, All-tail, All-map}
use Rattle.graph_model.specs.Graph.{is_in}
use Rattle.graph_model.proofs.Members.{is_in-filter, map_same_in}
use Rattle.window_model.specs.Decoder.{Task}
use Rattle.window_model.specs.Speculation.{Event, Arrived, Claimed, Returned, at_slot, detector_slots, IsBrought}
use Rattle.core_journal.specs.declared.event.Event.{Event as Entry}
use Rattle.core_journal.specs.declared.event.Event.TheVariants as entry
use Rattle.core_journal.specs.Entries.{Kept, bit, values_at, raws_at, result_in, event_of, history_of, IsThere, AreThere, syndrome_of}
use Rattle.core_journal.specs.EntryLaws.{IsOneMore, IsWrittenAt, ArrivedLaw, ClaimedLaw, HeldLaw, BroughtLaw}

map_same_all : {X Y : Type 0} (P : X → Type 0) (f g : X → Y) → ((x : X) → P x → f x ≡ g x) →
    (xs : List X) → All P xs → map f xs ≡ map g xs
map_same_all P f g same [] all = refl
map_same_all P f g same (x ∷ xs) all = ap (λ y. y ∷ map f xs) (same x (All-head P x xs all))
    ∙ ap (λ ys. g x ∷ ys) (map_same_all P f g same xs (All-tail P x xs all))

all_weaker : {X : Type 0} (P Q : X → Type 0) → ((x : X) → P x → Q x) → (xs : List X) → All P xs →
    All Q xs
all_weaker P Q f xs all k d l = f (get_or xs k d) (all k d l)

-- each entry is still there and means what it did, where this holds of arrivals, claims and results
record StillMeans (task : Task) (old now : ℕ) (before after : Kept) : Type 0 where
  arrived : (u : ℕ) → u < old → (u < now)
      × (event_of task after (entry.Arrived u) ≡ event_of task before (entry.Arrived u))
  claimed : (k w : ℕ) → k < length before.links → (k < length after.links)
      × (event_of task after (entry.Claimed k w) ≡ event_of task before (entry.Claimed k w))
  held : (k : ℕ) → IsSome (result_in before.results k) → IsSome (result_in after.results k)
      × (event_of task after (entry.Held k) ≡ event_of task before (entry.Held k))

still : (task : Task) (old now : ℕ) (before after : Kept) → StillMeans task old now before after →
    (x : Entry) → IsThere old before x →
    IsThere now after x × (event_of task after x ≡ event_of task before x)
still task old now before after s (entry.Arrived u) l = s.arrived u l
still task old now before after s (entry.Claimed k w) l = s.claimed k w l
still task old now before after s (entry.Held k) l = s.held k l
still task old now before after s (entry.Stale k current) l = (l, refl)
still task old now before after s (entry.Verified x w) l = (l, refl)
still task old now before after s (entry.Poisoned x w) l = (l, refl)
still task old now before after s (entry.Dropped w) l = (l, refl)
still task old now before after s (entry.Committed k w) l = (l, refl)
still task old now before after s (entry.Released op b) l = (l, refl)

-- one more entry, where those before it mean what they did
one_more : (task : Task) (old now : ℕ) (before after : Kept) (entries : List Entry) (e : Entry)
    (event : Event) → AreThere old before entries → StillMeans task old now before after →
    event_of task after e ≡ event → IsThere now after e →
    IsOneMore task now before after entries e event
one_more task old now before after entries e event all s is there_ = record {
  history =
      map-append (event_of task after) entries (e ∷ [])
      ∙ ap (λ front. front ++ event_of task after e ∷ []) (map_same_all (IsThere old before)
      (event_of task after) (event_of task before)
      (λ x l. (still task old now before after s x l).1) entries all)
      ∙ ap (λ last. history_of task before entries ++ last ∷ []) is;
  there = All-append (IsThere now after)
      entries (e ∷ []) (all_weaker (IsThere old before) (IsThere now after)
      (λ x l. (still task old now before after s x l).0) entries all)
      (All-cons (IsThere now after) e [] there_ (All-nil (IsThere now after)));
}

-- ---- a slot

in_slot : (slots : List ℕ) (t n : ℕ) → is_in (at_slot slots t) n ≡ true → slice_index slots n ≡ t
in_slot slots t n m =
    eqb-true (slice_index slots n) t
    (and_parts (is_in (range_with_len 0 (length slots)) n) (slice_index slots n == t) (sym
    (is_in-filter (λ i. slice_index slots i == t) (range_with_len 0 (length slots)) n) ∙ m)).1

-- those of another slot stay
bits_stay : (slots : List ℕ) (t u : ℕ) (old new : List Bool) → IsWrittenAt slots t old new →
    (u ≡ t → ⊥) → map (bit new) (at_slot slots u) ≡ map (bit old) (at_slot slots u)
bits_stay slots t u old new written ne =
    map_same_in (bit new) (bit old) (at_slot slots u)
    (λ n m. written n (false_from_ne_true (is_in (at_slot slots t) n) (λ here.
    ne (sym (in_slot slots u n m) ∙ in_slot slots t n here))))

pub arrived_law : ArrivedLaw
arrived_law task arrived kept entries values raws all one two =
    one_more task arrived (arrived + 1) kept after entries (entry.Arrived arrived)
    (Arrived arrived (values_at task values arrived) (raws_at task raws arrived)) all (record {
      arrived = λ u l. (omega (arith, l), same u l);
      claimed = λ k w l. (l, refl);
      held = λ k l. (l, refl);
    }) refl (omega arith)
  where
    after : Kept
    after = record kept { values = values; raws = raws }

    same : (u : ℕ) → u < arrived →
        event_of task after (entry.Arrived u) ≡ event_of task kept (entry.Arrived u)
    same u l =
        ap (λ vs. Arrived u vs (raws_at task raws u)) (bits_stay (detector_slots task) arrived u
        kept.values values one (λ e. omega (arith, e, l)))
        ∙ ap (λ rs. Arrived u (values_at task kept.values u) rs)
        (bits_stay task.raw_slots arrived u kept.raws raws two (λ e. omega (arith, e, l)))

-- ---- a claim

pub claimed_law : ClaimedLaw
claimed_law task arrived kept entries w links all =
    one_more task arrived arrived kept after entries (entry.Claimed (length kept.links) w)
    (Claimed (length kept.links) w links) all (record {
      arrived = λ u l. (l, refl);
      claimed = λ k y l. (
        omega (arith, long, l),
        ap (Claimed k y) (get_or-append kept.links (links ∷ []) [] k l),
      );
      held = λ k l. (l, refl);
    })
    (ap (Claimed (length kept.links) w) (get_or-append_seam kept.links links [] []))
    (omega (arith, long))
  where
    after : Kept
    after = record kept { links = kept.links ++ links ∷ [] }

    long : length (kept.links ++ links ∷ []) ≡ length kept.links + 1
    long = length-append kept.links (links ∷ [])

-- ---- a result

pub held_law : HeldLaw
held_law task arrived kept entries k set_ all within none =
    one_more task arrived arrived kept after entries (entry.Held k) (Returned k set_) all (record {
      arrived = λ u l. (l, refl);
      claimed = λ j y l. (l, refl);
      held = λ j l. (ap is_some (other j l) ∙ l, ap (λ o. Returned j (unwrap_or o [])) (other j l));
    })
    (ap (λ o. Returned k (unwrap_or o [])) here) (ap is_some here)
  where
    after : Kept
    after = record kept { results = set kept.results k (Some set_) }

    here : result_in after.results k ≡ Some set_
    here = get_or-set_same kept.results k (Some set_) None within

    other : (j : ℕ) → IsSome (result_in kept.results j) → result_in after.results j
        ≡ result_in kept.results j
    other j some = get_or-set_other kept.results k j (Some set_) None (λ e. false≢true
        (sym (ap is_some none) ∙ ap (λ i. is_some (result_in kept.results i)) (sym e) ∙ some))

-- ---- arrivals bring what is kept

pub brought_law : BroughtLaw
brought_law task kept entries = All-map (IsBrought task (syndrome_of kept)) (event_of task kept)
    entries (λ k d l. one (get_or entries k d))
  where
    one : (e : Entry) → IsBrought task (syndrome_of kept) (event_of task kept e)
    one (entry.Arrived u) = (refl, refl)
    one (entry.Claimed k w) = tt
    one (entry.Held k) = tt
    one (entry.Stale k current) = tt
    one (entry.Verified x w) = tt
    one (entry.Poisoned x w) = tt
    one (entry.Dropped w) = tt
    one (entry.Committed k w) = tt
    one (entry.Released op b) = tt
