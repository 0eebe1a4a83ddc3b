-- The releases that are put are those of a run: each is one of its steps, none is put twice, and
-- none is left out.
use Rattle.std.proofs.Common.{◌≡◌, ℕ, zero, suc, ◌==◌, Bool, true, false, if◌then◌else◌, List, [], ◌∷◌, ◌++◌, Some, filter_map, refl, sym, ap, ◌∙◌, subst, append_assoc, append-nil, arith, All, AllPairs, Contains, IsSome, eq-eqb}
use Rattle.std.specs.Prelude.{IsNone, unwrap_or}
use Rattle.std.specs.declared.option.Option.{Option}
use Rattle.std.specs.Bool.{⊤}
use Rattle.std.proofs.lemmas.List.Elements.{All-nil, All-cons, All-head, All-tail}
use Rattle.std.proofs.lemmas.List.Kept.{AllPairs-cons}
use Rattle.window_model.specs.Decoder.{Task, Syndrome, Step, Arrive, Commit, Release, Decoder, start, after, set_at, IsRun, IsRunFrom}
use Rattle.report_model.specs.Tapes.{Move, Take, Put, AreAllPut, AreInTime, IsPut, IsTimed, put_of}
use Rattle.run_rounds.specs.Moves.{puts_of, release_in, releases_of}

-- ---- members

one_further : {A : Type 0} (x : A) (xs : List A) (y : A) → Contains xs y → Contains (x ∷ xs) y
one_further x xs y (k, l, is) = (suc k, omega (arith, l), is)

abbrev pair_of : Option (ℕ × Bool) → ℕ × Bool
pair_of o = unwrap_or o (0, false)

-- a release among those of the steps is a step
pub release_found : (steps : List Step) (op : ℕ) (bit : Bool) → Contains (releases_of steps)
    (op, bit) →
    Contains steps (Release op bit)
release_found [] op bit (k, l, is) = absurd (omega (arith, l))
release_found (Arrive slot ∷ steps) op bit has =
    one_further (Arrive slot) steps (Release op bit) (release_found steps op bit has)
release_found (Commit window set ∷ steps) op bit has =
    one_further (Commit window set) steps (Release op bit) (release_found steps op bit has)
release_found (Release o b ∷ steps) op bit (zero, l, is) =
    (0, omega arith, ap (λ (r : ℕ × Bool). Release r.0 r.1) is)
release_found (Release o b ∷ steps) op bit (suc k, l, is) = one_further (Release o b) steps
    (Release op bit) (release_found steps op bit (k, omega (arith, l), is))

pub release_is_in : (steps : List Step) (op : ℕ) (bit : Bool) → Contains steps (Release op bit) →
    Contains (releases_of steps) (op, bit)
release_is_in [] op bit (k, l, is) = absurd (omega (arith, l))
release_is_in (Arrive slot ∷ steps) op bit (zero, l, is) = absurd cc
release_is_in (Arrive slot ∷ steps) op bit (suc k, l, is) =
    release_is_in steps op bit (k, omega (arith, l), is)
release_is_in (Commit window set ∷ steps) op bit (zero, l, is) = absurd cc
release_is_in (Commit window set ∷ steps) op bit (suc k, l, is) =
    release_is_in steps op bit (k, omega (arith, l), is)
release_is_in (Release o b ∷ steps) op bit (zero, l, is) =
    (0, omega arith, ap (λ s. pair_of (release_in s)) is)
release_is_in (Release o b ∷ steps) op bit (suc k, l, is) = one_further (
  o,
  b,
) (releases_of steps) (op, bit) (release_is_in steps op bit (k, omega (arith, l), is))

-- a release among those put is put
put_found : (moves : List Move) (op : ℕ) (bit : Bool) → Contains (puts_of moves) (op, bit) →
    Contains moves (Put op bit)
put_found [] op bit (k, l, is) = absurd (omega (arith, l))
put_found (Take byte ∷ moves) op bit has =
    one_further (Take byte) moves (Put op bit) (put_found moves op bit has)
put_found (Put o b ∷ moves) op bit (zero, l, is) =
    (0, omega arith, ap (λ (r : ℕ × Bool). Put r.0 r.1) is)
put_found (Put o b ∷ moves) op bit (suc k, l, is) =
    one_further (Put o b) moves (Put op bit) (put_found moves op bit (k, omega (arith, l), is))

-- what stands after a front is a member
behind_front : (front : List (ℕ × Bool)) (r : ℕ × Bool) (rest : List (ℕ × Bool)) →
    Contains (front ++ r ∷ rest) r
behind_front [] r rest = (0, omega arith, refl)
behind_front (x ∷ front) r rest = one_further x (front ++ r ∷ rest) r (behind_front front r rest)

-- ---- each is a step

puts_are_steps : (steps : List Step) (front : List (ℕ × Bool)) (moves : List Move) (rest : List (ℕ
    × Bool)) → releases_of steps ≡ front ++ (puts_of moves ++ rest) → All (IsPut steps) moves
puts_are_steps steps front [] rest e = All-nil (IsPut steps)
puts_are_steps steps front (Take byte ∷ moves) rest e =
    All-cons (IsPut steps) (Take byte) moves tt (puts_are_steps steps front moves rest e)
puts_are_steps steps front (Put op bit ∷ moves) rest e =
    All-cons (IsPut steps) (Put op bit) moves
    (release_found steps op bit (subst (λ l. Contains l (op, bit)) (sym e) (behind_front front (
      op,
      bit,
    ) (puts_of moves ++ rest))))
    (puts_are_steps steps (front ++ (op, bit) ∷ []) moves rest (e
    ∙ sym (append_assoc front ((op, bit) ∷ []) (puts_of moves ++ rest))))

-- ---- none is left out

pub all_put : (steps : List Step) (moves : List Move) → puts_of moves ≡ releases_of steps →
    AreAllPut steps moves
all_put steps moves e op bit has = put_found moves op bit (subst (λ l. Contains l (op, bit)) (sym e)
    (release_is_in steps op bit has))

-- ---- none is put twice

abbrev IsOther : ℕ → ℕ → Type 0
IsOther a b = a ≡ b → ⊥

-- no operation comes twice
abbrev pub AreOnce : List (ℕ × Bool) → Type 0
AreOnce [] = ⊤
AreOnce (r ∷ rs) = All (λ (q : ℕ × Bool). IsOther r.0 q.0) rs × AreOnce rs

some_is_none : (o : Option Bool) → IsSome o → IsNone o → ⊥
some_is_none o some none = let no : true ≡ false = sym some ∙ none in cc

still_some : (d : Decoder) (op o : ℕ) (b : Bool) → IsSome (d.released op) →
    IsSome (set_at d.released o (Some b) op)
still_some d op o b some = by (op == o)
  where
    by : (same : Bool) → IsSome (if same then Some b else d.released op)
    by true = refl
    by false = some

-- what is released isn't released again
never_again : (task : Task) (s : Syndrome) (d : Decoder) (steps : List Step) (op : ℕ) →
    IsRunFrom task s d steps → IsSome (d.released op) →
    All (λ (q : ℕ × Bool). IsOther op q.0) (releases_of steps)
never_again task s d [] op run some = All-nil (λ (q : ℕ × Bool). IsOther op q.0)
never_again task s d (Arrive slot ∷ steps) op run some =
    never_again task s (after d (Arrive slot)) steps op run.1 some
never_again task s d (Commit window set ∷ steps) op run some =
    never_again task s (after d (Commit window set)) steps op run.1 some
never_again task s d (Release o b ∷ steps) op run some =
    All-cons (λ (q : ℕ × Bool). IsOther op q.0) (o, b) (releases_of steps)
    (λ e.
    some_is_none (d.released op) some (subst (λ n. IsNone (d.released n)) (sym e) run.0.open_))
    (never_again task s (after d (Release o b)) steps op run.1 (still_some d op o b some))

now_some : (d : Decoder) (op : ℕ) (b : Bool) → IsSome (set_at d.released op (Some b) op)
now_some d op b =
    subst (λ t. IsSome (if t then Some b else d.released op)) (sym (eq-eqb op op refl)) refl

pub releases_once : (task : Task) (s : Syndrome) (d : Decoder) (steps : List Step) →
    IsRunFrom task s d steps → AreOnce (releases_of steps)
releases_once task s d [] run = tt
releases_once task s d (Arrive slot ∷ steps) run =
    releases_once task s (after d (Arrive slot)) steps run.1
releases_once task s d (Commit window set ∷ steps) run =
    releases_once task s (after d (Commit window set)) steps run.1
releases_once task s d (Release o b ∷ steps) run = (
  never_again task s (after d (Release o b)) steps o run.1 (now_some d o b),
  releases_once task s (after d (Release o b)) steps run.1,
)

pub front_all : {A : Type 0} (P : A → Type 0) (xs ys : List A) → All P (xs ++ ys) → All P xs
front_all P [] ys all = All-nil P
front_all P (x ∷ xs) ys all =
    All-cons P x xs (All-head P x (xs ++ ys) all) (front_all P xs ys (All-tail P x (xs ++ ys) all))

pub front_once : (xs ys : List (ℕ × Bool)) → AreOnce (xs ++ ys) → AreOnce xs
front_once [] ys once = tt
front_once (x ∷ xs) ys once = (
  front_all (λ (q : ℕ × Bool). IsOther x.0 q.0) xs ys once.0,
  front_once xs ys once.1,
)

others : (op : ℕ) (moves : List Move) → All (λ (q : ℕ × Bool). IsOther op q.0) (puts_of moves) →
    All (IsOther op) (filter_map put_of moves)
others op [] all = All-nil (IsOther op)
others op (Take byte ∷ moves) all = others op moves all
others op (Put o b ∷ moves) all =
    All-cons (IsOther op) o (filter_map put_of moves) (All-head (λ (q : ℕ × Bool). IsOther op q.0)
    (o, b) (puts_of moves) all)
    (others op moves (All-tail (λ (q : ℕ × Bool). IsOther op q.0) (o, b) (puts_of moves) all))

no_pairs : AllPairs IsOther []
no_pairs i j d l m = absurd (omega (arith, m))

pub pairs : (moves : List Move) → AreOnce (puts_of moves) → AllPairs IsOther
    (filter_map put_of moves)
pairs [] once = no_pairs
pairs (Take byte ∷ moves) once = pairs moves once
pairs (Put o b ∷ moves) once =
    AllPairs-cons IsOther o (filter_map put_of moves) (others o moves once.0) (pairs moves once.1)

-- ---- together

-- the puts are the first releases of a run, in order
pub in_time : (task : Task) (s : Syndrome) (steps : List Step) (moves : List Move)
    (rest : List (ℕ × Bool)) → IsRun task s steps → releases_of steps ≡ puts_of moves ++ rest →
    IsTimed task 0 true moves → AreInTime task steps moves
in_time task s steps moves rest run e timed = record {
  released = puts_are_steps steps [] moves rest e;
  once = pairs moves
      (front_once (puts_of moves) rest (subst AreOnce e (releases_once task s start steps run)));
  timed = timed;
}

-- they are all of them
pub all_in_time : (task : Task) (s : Syndrome) (steps : List Step) (moves : List Move) →
    IsRun task s steps → puts_of moves ≡ releases_of steps → IsTimed task 0 true moves →
    AreInTime task steps moves
all_in_time task s steps moves run e timed = in_time task s steps moves [] run (sym e
    ∙ sym (append-nil (puts_of moves))) timed
