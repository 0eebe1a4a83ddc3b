-- One more entry of a journal.
use Rattle.std.proofs.Common.{◌≡◌, ◌⊎◌, ⊎_elim, inl, inr, ℕ, List, [], ◌∷◌, ◌++◌, map, Option, refl, sym, ap, ◌∙◌}
use Rattle.std.proofs.lemmas.List.{map-append}
use Rattle.window_model.specs.Speculation.{Event, happen_all, start}
use Rattle.core_journal.specs.declared.event.Event.{Event as Entry}
use Rattle.core_journal.specs.declared.event.Event.TheVariants as entry
use Rattle.core_journal.specs.Entries.{event_of, history_of}
use Rattle.trace_laws.specs.Told.{MoreToldLaw, running_now}

-- an element of a list with one more at its end: the last, or one of the others
record Within {X : Type 0} (xs front : List X) (x : X) : Type 0 where
  rest : List X
  is : xs ≡ front ++ x ∷ rest

last_or : {X : Type 0} (xs : List X) (last : X) (front : List X) (x : X) (back : List X) →
    xs ++ last ∷ [] ≡ front ++ x ∷ back → ((xs ≡ front) × (last ≡ x)) ⊎ Within xs front x
last_or [] last [] x back e = inl (refl, cc)
last_or [] last (y ∷ []) x back e = absurd (cc)
last_or [] last (y ∷ z ∷ front) x back e = absurd (cc)
last_or (w ∷ xs) last [] x back e =
    let first : w ≡ x = cc in inr (record { rest = xs; is = ap (λ v. v ∷ xs) first })
last_or (w ∷ xs) last (y ∷ front) x back e =
    let first : w ≡ y = cc in
    let others : xs ++ last ∷ [] ≡ front ++ x ∷ back = cc in
    ⊎_elim
    (λ here. inl (ap (λ v. v ∷ xs) first ∙ ap (λ vs. y ∷ vs) here.0, here.1))
    (λ there. inr (record {
      rest = there.rest;
      is = ap (λ v. v ∷ xs) first ∙ ap (λ vs. y ∷ vs) there.is;
    }))
    (last_or xs last front x back others)

-- what two functions make of a list is the same, and so of each front of it
same_front : {X Y : Type 0} (f g : X → Y) (xs : List X) (us vs : List Y) →
    map f xs ++ us ≡ map g xs ++ vs → map f xs ≡ map g xs
same_front f g [] us vs e = refl
same_front f g (x ∷ xs) us vs e =
    let first : f x ≡ g x = cc in
    let others : map f xs ++ us ≡ map g xs ++ vs = cc in
    let rest = same_front f g xs us vs others in
    cc

-- ---- the entries before the last are reported as they were

pub more_told_law : MoreToldLaw
more_told_law task before after entries e event told is last = record { told = by }
  where
    f : Entry → Event
    f = event_of task after

    g : Entry → Event
    g = event_of task before

    same : history_of task after entries ≡ history_of task before entries
    same =
        same_front f g entries (f e ∷ []) (event ∷ [])
        (sym (map-append f entries (e ∷ [])) ∙ is)

    fronts : (front : List Entry) (x : Entry) (rest : List Entry) → entries ≡ front ++ x ∷ rest →
        history_of task after front ≡ history_of task before front
    fronts front x rest cut =
        same_front f g front (map f (x ∷ rest)) (map g (x ∷ rest))
        (sym (map-append f front (x ∷ rest)) ∙ ap (map f) (sym cut) ∙ same ∙ ap (map g) cut
        ∙ map-append g front (x ∷ rest))

    by : (front back : List Entry) (k : ℕ) (current : Option ℕ) →
        entries ++ e ∷ [] ≡ front ++ entry.Stale k current ∷ back →
        running_now (happen_all task start (history_of task after front)) k ≡ current
    by front back k current cut =
        ⊎_elim
        (λ here. ap (λ h. running_now (happen_all task start h) k)
        (ap (history_of task after) (sym here.0) ∙ same) ∙ last k current here.1)
        (λ there. ap (λ h. running_now (happen_all task start h) k)
        (fronts front (entry.Stale k current) there.rest there.is)
        ∙ told.told front there.rest k current there.is)
        (last_or entries e front (entry.Stale k current) back cut)
