-- What windows hold, one by one.
use Rattle.std.proofs.Common.{◌≡◌, ℕ, ◌+◌, ◌<◌, true, ◌&&◌, List, [], ◌∷◌, ◌++◌, refl, sym, ap, ◌∙◌, arith, length, get_or, map, filter, take, append_assoc, All, subst, Some, slice_get, ltb-true, nat_lt, zero-add}
use Rattle.std.specs.List.{flat_map, list_any, range_with_len}
use Rattle.std.proofs.lemmas.Bool.{and_parts}
use Rattle.std.proofs.lemmas.List.{map-append, take_more}
use Rattle.std.proofs.lemmas.List.FromFn.{get_or-map-range_with_len, length-map-range_with_len, map-range_with_len_more}
use Rattle.std.proofs.lemmas.Option.{get_or_from_slice_get}
use Rattle.graph_model.specs.Graph.{DetectorGraph, IsGraph, ends_at, is_in}
use Rattle.graph_model.specs.declared.Tag.{Tag}
use Rattle.graph_model.proofs.Members.{map_same_in}
use Rattle.graph_model.proofs.Ranges.{flat_map_next}
use Rattle.window_model.specs.Windows.{detectors_of, owner_of, owned_of}
use Rattle.window_model.proofs.Plans.{in_below}
use Rattle.window_plan.specs.Contents.{AreContents, AreGathered, edges_at, last_at, places_in}
use Rattle.window_plan.specs.Gathers.{border_by, edges_by, has_owner, places_by}
use Rattle.window_plan.specs.Layouts.{deps_at}
use Rattle.window_plan.proofs.Gathered.{deps_are, edges_are, places_are}
use Rattle.window_plan.proofs.Surveyed.{detectors_below}

-- ---- one of a list of lists
pub one_read : {X : Type 0} (f : ℕ → X) (xs : List X) (count w : ℕ) (x : X) →
    xs ≡ map f (range_with_len 0 count) → w < count → slice_get xs w ≡ Some x → x ≡ f w
one_read f xs count w x is l at =
    sym (get_or_from_slice_get xs w x x at) ∙ ap (λ ys. get_or ys w x) is
    ∙ get_or-map-range_with_len f 0 count w w x l (zero-add w)

pub one_within : {X : Type 0} (f : ℕ → X) (xs : List X) (count w : ℕ) →
    xs ≡ map f (range_with_len 0 count) → w < count → w < length xs
one_within f xs count w is l = let e = ap length is in
    let k = length-map-range_with_len f 0 count in omega (arith, e, k, l)

-- ---- the lists of one window
module _ (g : DetectorGraph) (graph : IsGraph g) (homes owners : List ℕ) (owned : owners
    ≡ map (owner_of homes) g.edges) (count buffer w : ℕ) where
  pub read_below : (ds : List ℕ) → ds ≡ detectors_of g homes buffer w → All (λ x. x < g.vertices) ds
  read_below ds is =
      subst (λ xs. All (λ x. x < g.vertices) xs) (sym is) (detectors_below g homes buffer w)

  pub edges_found : (read ds edges : List ℕ) → read ≡ owners → ds ≡ detectors_of g homes buffer w →
      edges ≡ edges_by g read w ds → edges ≡ edges_at g homes buffer w
  edges_found read ds edges same found is = is ∙ ap (λ os. edges_by g os w ds) same
      ∙ ap (edges_by g owners w) found
      ∙ edges_are g graph homes owners owned w (detectors_of g homes buffer w)

  -- dependencies are lower
  pub dep_lower : (x : ℕ) → is_in (deps_at g homes count buffer w) x ≡ true → x < w
  dep_lower x m =
      let both = in_below
      (λ y. list_any (λ v. has_owner g owners v y) (detectors_of g homes buffer w)
      && nat_lt y w) count x
      (ap (λ xs. is_in xs x)
      (deps_are g graph homes owners owned count w (detectors_of g homes buffer w)) ∙ m) in
      ltb-true x w
      (and_parts (list_any (λ v. has_owner g owners v x) (detectors_of g homes buffer w))
      (nat_lt x w) both.1).1

  pub places_found : (read ds deps : List ℕ) (places : List (List ℕ)) → read ≡ owners →
      ds ≡ detectors_of g homes buffer w → deps ≡ deps_at g homes count buffer w →
      places ≡ map (λ x. places_by g read x (border_by g read w ds)) deps →
      places ≡ places_in g homes count buffer w
  places_found read ds deps places same found lower is =
      is ∙ ap (λ os. map (λ x. places_by g os x (border_by g os w ds)) deps) same
      ∙ ap (λ us. map (λ x. places_by g owners x (border_by g owners w us)) deps) found
      ∙ ap (map (λ x. places_by g owners x (border_by g owners w (detectors_of g homes buffer w))))
      lower
      ∙ map_same_in
      (λ x. places_by g owners x (border_by g owners w (detectors_of g homes buffer w)))
      (λ x. filter (λ v. list_any (ends_at g v) (owned_of g homes x))
      (detectors_of g homes buffer w)) (deps_at g homes count buffer w)
      (λ x m. places_are g graph homes owners owned w x (detectors_of g homes buffer w)
      (dep_lower x m))

-- ---- what is gathered of one of the windows
module _ {g : DetectorGraph} {tags : List Tag} {homes owners : List ℕ}
    {members mine : List (List ℕ)}
    {count buffer : ℕ} {detectors deps : List (List ℕ)} {touched : ℕ}
    (s : AreGathered g tags homes owners members mine count buffer detectors deps touched)
    (graph : IsGraph g) (w : ℕ) (l : w < count) where
  pub has_detectors : w < length detectors
  has_detectors = one_within (detectors_of g homes buffer) detectors count w s.detectors_are l

  pub has_deps : w < length deps
  has_deps = one_within (deps_at g homes count buffer) deps count w s.deps_are l

  pub detectors_are : (ds : List ℕ) → slice_get detectors w ≡ Some ds →
      ds ≡ detectors_of g homes buffer w
  detectors_are ds at =
      one_read (detectors_of g homes buffer) detectors count w ds s.detectors_are l at

  pub deps_are_read : (xs : List ℕ) → slice_get deps w ≡ Some xs →
      xs ≡ deps_at g homes count buffer w
  deps_are_read xs at = one_read (deps_at g homes count buffer) deps count w xs s.deps_are l at

  pub detectors_within : (ds : List ℕ) → slice_get detectors w ≡ Some ds →
      All (λ x. x < g.vertices) ds
  detectors_within ds at =
      read_below g graph homes owners s.layout.owned count buffer w ds (detectors_are ds at)

  pub edges_read : (ds edges : List ℕ) → slice_get detectors w ≡ Some ds →
      edges ≡ edges_by g owners w ds → edges ≡ edges_at g homes buffer w
  edges_read ds edges at is =
      edges_found g graph homes owners s.layout.owned count buffer w owners ds edges refl
      (detectors_are ds at) is

  pub places_read : (ds xs : List ℕ) (ps : List (List ℕ)) → slice_get detectors w ≡ Some ds →
      slice_get deps w ≡ Some xs →
      ps ≡ map (λ x. places_by g owners x (border_by g owners w ds)) xs →
      ps ≡ places_in g homes count buffer w
  places_read ds xs ps at deps_at_w is =
      places_found g graph homes owners s.layout.owned count buffer w owners ds xs ps refl
      (detectors_are ds at) (deps_are_read xs deps_at_w) is

-- ---- one more window
more : {X : Type 0} (f : ℕ → X) (n : ℕ) (xs new : List X) (x : X) →
    xs ≡ map f (range_with_len 0 n) → x ≡ f n → new ≡ xs ++ x ∷ [] →
    new ≡ map f (range_with_len 0 (n + 1))
more f n xs new x old is push =
    push ∙ ap (λ ys. ys ++ x ∷ []) old ∙ ap (λ y. map f (range_with_len 0 n) ++ y ∷ []) is
    ∙ sym (map-range_with_len_more f 0 n n (zero-add n))

pub contents_more : (g : DetectorGraph) (tags : List Tag) (homes : List ℕ) (count buffer n : ℕ)
    (es es' : List (List ℕ)) (ls ls' : List ℕ) (ps ps' : List (List ℕ)) (e : List ℕ) (l : ℕ)
    (p : List (List ℕ)) →
    AreContents g tags homes count buffer n es ls ps → e ≡ edges_at g homes buffer n →
    l ≡ last_at g tags homes buffer n → p ≡ places_in g homes count buffer n →
    es' ≡ es ++ e ∷ [] → ls' ≡ ls ++ l ∷ [] → ps' ≡ ps ++ p →
    AreContents g tags homes count buffer (n + 1) es' ls' ps'
contents_more g tags homes count buffer n es es' ls ls' ps ps' e l p old e_is l_is p_is es_is ls_is
    ps_is = record {
      edges_are = more (edges_at g homes buffer) n es es' e old.edges_are e_is es_is;
      lasts_are = more (last_at g tags homes buffer) n ls ls' l old.lasts_are l_is ls_is;
      places_are =
          ps_is ∙ ap (λ xs. xs ++ p) old.places_are
          ∙ ap (λ xs. flat_map (places_in g homes count buffer) (range_with_len 0 n) ++ xs) p_is
          ∙ sym (flat_map_next (places_in g homes count buffer) n);
    }

-- ---- one more link
pub links_more : (f : ℕ → List ℕ) (deps : List ℕ) (i : ℕ) (start old new : List (List ℕ))
    (p : List ℕ) → i < length deps → old ≡ start ++ map f (take i deps) → p ≡ f (get_or deps i 0) →
    new ≡ old ++ p ∷ [] → new ≡ start ++ map f (take (i + 1) deps)
links_more f deps i start old new p l so_far is pushed =
    pushed ∙ ap (λ xs. xs ++ p ∷ []) so_far ∙ append_assoc start (map f (take i deps)) (p ∷ [])
    ∙ ap (λ x. start ++ (map f (take i deps) ++ x ∷ [])) is
    ∙ ap (λ xs. start ++ xs) (sym (map-append f (take i deps) (get_or deps i 0 ∷ []))
    ∙ ap (map f) (sym (take_more deps i 0 l)))
