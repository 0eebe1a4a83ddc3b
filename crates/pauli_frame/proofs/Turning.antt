-- Values that are turned, label by label and edge by edge.
use Rattle.std.proofs.Common.{◌≡◌, ℕ, ◌+◌, ◌<◌, ◌==◌, Bool, true, false, ◌||◌, List, [], ◌∷◌, All, None, subst, refl, sym, ap, ◌∙◌, arith, length, take, get_or, slice_get, Some, eqb-true}
use Rattle.std.proofs.lemmas.Option.{slice_get-get_or}
use Rattle.std.specs.List.Sorted.{IsStrictlyIncreasing}
use Rattle.std.specs.Option.{option_map_or}
use Rattle.graph_model.specs.Graph.{GraphEdge, DetectorGraph, flip_of, flips, is_in}
use Rattle.graph_model.specs.Parity.{◌⊕◌, parity}
use Rattle.graph_model.proofs.Ascending.{increasing_above, increasing_rest}
use Rattle.graph_model.proofs.Edges.{flips_get}
use Rattle.graph_model.proofs.Parities.{parity_more, xor_assoc}
use Rattle.pauli_frame.specs.Frames.{mask_at}

exclusive : (a b : Bool) → (a ≡ true → b ≡ true → ⊥) → a ⊕ b ≡ a || b
exclusive true true h = absurd (h refl refl)
exclusive true false h = refl
exclusive false b h = refl

-- a label stands in a mask once at the most
pub parity_once : (xs : List ℕ) → IsStrictlyIncreasing xs → (l : ℕ) → parity (λ x. x == l) xs
    ≡ is_in xs l
parity_once [] h l = refl
parity_once (x ∷ xs) h l =
    ap (λ b. (x == l) ⊕ b) (parity_once xs (increasing_rest x xs h) l)
    ∙ exclusive (x == l) (is_in xs l) (λ e m. let k = increasing_above x xs h l m in
    let s = eqb-true x l e in omega (arith, k, s))

-- one more element whose test is known
pub turned_more : {X : Type 0} (test : X → Bool) (xs : List X) (i : ℕ)
    (d : X) (start now next last : Bool) → i < length xs → now ≡ start ⊕ parity test (take i xs) →
    last ≡ test (get_or xs i d) → next ≡ now ⊕ last →
    next ≡ start ⊕ parity test (take (i + 1) xs)
turned_more test xs i d start now next last l so_far is turn =
    turn ∙ ap (λ b. now ⊕ b) is ∙ ap (λ b. b ⊕ test (get_or xs i d)) so_far
    ∙ xor_assoc start (parity test (take i xs)) (test (get_or xs i d))
    ∙ ap (λ b. start ⊕ b) (sym (parity_more test xs i d l))

pub edge_more : (g : DetectorGraph) (edges : List ℕ) (i l : ℕ) (start now next : Bool)
    (edge : GraphEdge) → i < length edges → now ≡ start ⊕ flip_of g (take i edges) l →
    slice_get g.edges (get_or edges i 0) ≡ Some edge → next ≡ now ⊕ is_in edge.mask l →
    next ≡ start ⊕ flip_of g (take (i + 1) edges) l
edge_more g edges i l start now next edge within so_far at turn =
    turned_more (flips g l) edges i 0 start now next (is_in edge.mask l) within so_far
    (sym (flips_get g l (get_or edges i 0) edge at)) turn

-- the mask of an edge that was read
pub mask_get : (g : DetectorGraph) (e : ℕ) (edge : GraphEdge) → slice_get g.edges e ≡ Some edge →
    mask_at g e ≡ edge.mask
mask_get g e edge at = ap (λ o. option_map_or (λ (x : GraphEdge). x.mask) o []) at

-- where each edge's labels are below a number, so are those of a set of edges
pub masks_below : (g : DetectorGraph) (n : ℕ) →
    All (λ (edge : GraphEdge). All (λ l. l < n) edge.mask) g.edges → (set : List ℕ) →
    All (λ e. e < length g.edges) set → All (λ e. All (λ l. l < n) (mask_at g e)) set
masks_below g n masks set within k d l =
    let e = get_or set k d in
    let no_edge : GraphEdge = record { first = 0; second = None; weight = 0; mask = [] } in
    subst (All (λ x. x < n)) (sym (mask_get g e (get_or g.edges e no_edge)
    (slice_get-get_or g.edges e no_edge (within k d l)))) (masks e no_edge (within k d l))
