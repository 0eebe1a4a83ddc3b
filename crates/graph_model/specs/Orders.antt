-- Lists that stand in an order.
use Rattle.std.specs.Prelude.{◌≡◌, Bool, true, List, [], ◌∷◌}

-- the element comes before each of these
abbrev pub ComesFirst : {X : Type 0} → (X → X → Bool) → X → List X → Type 0
ComesFirst before x [] = Unit {0}
ComesFirst before x (y ∷ ys) = (before x y ≡ true) × ComesFirst before x ys

-- each element comes before those after it
abbrev pub Rises : {X : Type 0} → (X → X → Bool) → List X → Type 0
Rises before [] = Unit {0}
Rises before (x ∷ xs) = ComesFirst before x xs × Rises before xs
