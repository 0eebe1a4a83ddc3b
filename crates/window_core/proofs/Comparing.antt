-- What is compared: the guess of a window about its source, with what the source's result flips.
use Rattle.std.proofs.Common.{◌≡◌, ℕ, ◌<◌, ◌==◌, false, true, cond, ◌||◌, Bool, List, [], ◌∷◌, refl, sym, ap, ◌∙◌, subst, length, map, find, get_or, drop, eqb-true, Option, None, Some}
use Rattle.std.proofs.lemmas.List.{length-map}
use Rattle.std.proofs.lemmas.Option.{none-some, same_Some}
use Rattle.graph_model.specs.Graph.{is_in}
use Rattle.window_model.specs.Speculation.{Compares, Link, Machine, Phase, Waiting, Running, Held, Done, flips_at, held_by, pending, result_of, sources_of, standing}
use Rattle.window_model.specs.TurnLaws.{CanCompare}
use Rattle.window_model.specs.Windows.{places, window_at, window_count}
use Rattle.cascade_laws.specs.Store.{bits_of}
use Rattle.core_store.specs.Tickets.{ClaimBits}
use Rattle.core_state.specs.States.{CoreTable, HasBits, IsState, machine_of}
use Rattle.window_core.specs.Claims.{bits_about}
use Rattle.window_core.proofs.Awaited.{covered, sound}
use Rattle.window_core.proofs.Guessed.{found_bits}
use Rattle.window_model.proofs.Soundness.{pending_held}

-- a link that is found is among the links
among_test : (x : ℕ) (b : Bool) (l : Link) (links : List Link) (link : Link) → (l.source == x) ≡ b →
    cond (l.source == x) (Some l) (find (λ (k : Link). k.source == x) links) ≡ Some link →
    (find (λ (k : Link). k.source == x) links ≡ Some link → is_in (sources_of links) x ≡ true) →
    is_in (sources_of (l ∷ links)) x ≡ true
among_test x true l links link is found more = ap (λ b. b || is_in (sources_of links) x) is
among_test x false l links link is found more =
    ap (λ b. b || is_in (sources_of links) x) is
    ∙ more (sym (ap (λ b. cond b (Some l) (find (λ (k : Link). k.source == x) links)) is) ∙ found)

among : (links : List Link) (x : ℕ) (link : Link) →
    find (λ (l : Link). l.source == x) links ≡ Some link → is_in (sources_of links) x ≡ true
among [] x link e = absurd (none-some link e)
among (l ∷ links) x link e =
    among_test x (l.source == x) l links link refl e (among links x link)

-- the bits about a dependency have its length
long_test : (f : ℕ → ℕ) (t : Bool) (d x : ℕ) (deps : List ℕ) (b : List Bool)
    (bits : List (List Bool)) (own : List Bool) → (d == x) ≡ t → length b ≡ f d →
    cond (d == x) (Some b) (bits_about deps bits x) ≡ Some own →
    (bits_about deps bits x ≡ Some own → length own ≡ f x) → length own ≡ f x
long_test f true d x deps b bits own is long found more =
    ap length (sym (same_Some b own (sym (ap (λ t. cond t (Some b) (bits_about deps bits x)) is)
    ∙ found))) ∙ long ∙ ap f (eqb-true d x is)
long_test f false d x deps b bits own is long found more =
    more (sym (ap (λ t. cond t (Some b) (bits_about deps bits x)) is) ∙ found)

about_long : (f : ℕ → ℕ) (deps : List ℕ) (bits : List (List Bool)) (x : ℕ) (own : List Bool) →
    map length bits ≡ map f deps → bits_about deps bits x ≡ Some own → length own ≡ f x
about_long f [] bits x own e found = absurd (none-some own found)
about_long f (d ∷ deps) [] x own e found = absurd (none-some own found)
about_long f (d ∷ deps) (b ∷ bits) x own e found =
    long_test f (d == x) d x deps b bits own refl (ap (λ ns. get_or ns 0 0) e) found
    (about_long f deps bits x own (ap (drop 1) e))

module _ (c : CoreTable) (h : IsState c) (x w : ℕ)
    (can : CanCompare c.task (machine_of c) x w) where
  abbrev m : Machine
  m = machine_of c

  abbrev its : Compares c.task m x w can.0 can.1
  its = can.2

  held : held_by (m.phase w) ≡ Some its.own
  held = pending_held (m.phase w) its.own its.is_pending

  taken : its.own < m.tickets
  taken = ((sound c h).current w its.own held).0

  window_is : (m.claim its.own).window ≡ w
  window_is = ((sound c h).current w its.own held).1

  pub in_plan : w < window_count c.task.plan
  in_plan = subst (λ v. v < window_count c.task.plan) window_is (covered c h its.own taken).in_range

  sources_are : sources_of (m.claim its.own).links ≡ (window_at c.task.plan w).deps
  sources_are = (sound c h).sources its.own taken
      ∙ ap (λ v. (window_at c.task.plan v).deps) window_is

  pub source_in : is_in (window_at c.task.plan w).deps x ≡ true
  source_in = ap (λ xs. is_in xs x) (sym sources_are)
      ∙ among (m.claim its.own).links x _ its.guessed

  -- what is found of the window's ticket
  module _ (own : ℕ) (found : held_by (m.phase w) ≡ Some own) where
    own_is : its.own ≡ own
    own_is = same_Some its.own own (sym held ∙ found)

    pub own_taken : own < m.tickets
    own_taken = subst (λ k. k < m.tickets) own_is taken

    module _ (claim : ClaimBits) (window : claim.window ≡ (m.claim own).window)
        (bits : claim.bits ≡ bits_of (m.claim own).links) (each : HasBits c.task claim) where
      at_window : claim.window ≡ w
      at_window = window ∙ ap (λ k. (m.claim k).window) (sym own_is) ∙ window_is

      places_are : map length claim.bits ≡ map (λ y. length (places c.task.graph c.task.plan y w))
          (window_at c.task.plan w).deps
      places_are = subst (λ v. map length claim.bits ≡ map (λ y. length (places c.task.graph
          c.task.plan y v)) (window_at c.task.plan v).deps) at_window each

      pub each_dep : length claim.bits ≡ length (window_at c.task.plan w).deps
      each_dep = sym (length-map claim.bits length) ∙ ap length places_are
          ∙ length-map (window_at c.task.plan w).deps
          (λ y. length (places c.task.graph c.task.plan y w))

      pub guess_found : bits_about (window_at c.task.plan w).deps claim.bits x ≡ Some can.0
      guess_found =
          ap (λ ds. bits_about ds claim.bits x) (sym sources_are)
          ∙ ap (λ bs. bits_about (sources_of (m.claim its.own).links) bs x)
          (bits ∙ ap (λ k. bits_of (m.claim k).links) (sym own_is))
          ∙ found_bits (m.claim its.own).links x _ its.guessed

      -- the bits that are found are the guess
      module _ (guess : List Bool) (is_found : bits_about (window_at c.task.plan w).deps claim.bits
          x ≡ Some guess) where
        pub guess_is : can.0 ≡ guess
        guess_is = same_Some can.0 guess (sym guess_found ∙ is_found)

        pub guess_long : length guess ≡ length (places c.task.graph c.task.plan x w)
        guess_long = about_long (λ y. length (places c.task.graph c.task.plan y w))
            (window_at c.task.plan w).deps claim.bits x guess places_are is_found

  -- the result of the source decides
  module _ (guess : List Bool) (guess_is : can.0 ≡ guess) (other : ℕ)
      (stands : standing (m.phase x) ≡ Some other) where
    other_is : its.other ≡ other
    other_is = same_Some its.other other (sym its.is_standing ∙ stands)

    flips_are : can.1 ≡ flips_at c.task x w (result_of m other)
    flips_are = its.result ∙ ap (λ k. flips_at c.task x w (result_of m k)) other_is

    pub right : guess ≡ flips_at c.task x w (result_of m other) →
        (bits : List Bool) × Compares c.task m x w bits bits
    right e = (
      can.1,
      subst (λ bs. Compares c.task m x w bs can.1) (guess_is ∙ e ∙ sym flips_are) its,
    )

    pub wrong : (guess ≡ flips_at c.task x w (result_of m other) → ⊥) →
        (bits : List Bool) × (flips : List Bool) × Compares c.task m x w bits flips
        × (bits ≡ flips → ⊥)
    wrong ne = (can.0, can.1, its, λ e. ne (sym guess_is ∙ e ∙ flips_are))
