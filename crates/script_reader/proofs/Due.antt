-- The line that is due, byte after byte.
use Rattle.std.proofs.Common.{◌≡◌, ◌<◌, ◌+◌, ℕ, zero, suc, false, eqb, cond, List, [], ◌∷◌, ◌++◌, length, take, drop, get_or, refl, sym, ap, subst, ◌∙◌, append_assoc, eq-eqb, arith}
use Rattle.std.specs.declared.option.Option.{Option}
use Rattle.replay_model.specs.Scripts.{due_from, Unfit}
use Rattle.script_reader.specs.declared.error.ScriptError.{ScriptError}
use Rattle.script_reader.specs.declared.error.ScriptError.TheVariants.{Fault, Ended, ReadFault}
use Rattle.script_reader.specs.Lines.{IsNotDue}

-- what fits is due no more
pub fitting : (front due bytes : List ℕ) →
    due_from (front ++ due) (front ++ bytes) ≡ due_from due bytes
fitting [] due bytes = refl
fitting (x ∷ front) due bytes =
    ap (λ t. cond t (due_from (front ++ due) (front ++ bytes)) Unfit) (eq-eqb x x refl)
    ∙ fitting front due bytes

pub not_due_behind : (front due : List ℕ) (number : ℕ) (bytes : List ℕ) (left : Option (List ℕ))
    (error : ScriptError) → IsNotDue due number bytes left error →
    IsNotDue (front ++ due) number (front ++ bytes) left error
not_due_behind front due number bytes left (Fault line) (e, u) = (
  e,
  record {
    front = front ++ u.front;
    byte = u.byte;
    bytes_are = ap (λ t. front ++ t) u.bytes_are ∙ sym (append_assoc front u.front (u.byte ∷ []));
    sound = fitting front due u.front ∙ u.sound;
    unfit = λ rest. ap (due_from (front ++ due)) (append_assoc front bytes rest)
        ∙ fitting front due (bytes ++ rest) ∙ u.unfit rest;
  },
)
not_due_behind front due number bytes left (Ended line) (e, end, is) =
    (e, end, fitting front due bytes ∙ is)
not_due_behind front due number bytes left ReadFault is = fitting front due bytes ∙ is

-- the first byte that is due doesn't come
pub other_byte : (due byte : ℕ) (more rest : List ℕ) → eqb byte due ≡ false →
    due_from (due ∷ more) (byte ∷ rest) ≡ Unfit
other_byte due byte more rest e = ap (λ t. cond t (due_from more rest) Unfit) e

split : (xs : List ℕ) (i d : ℕ) → i < length xs → xs ≡ take i xs ++ get_or xs i d ∷ drop (i + 1) xs
split [] i d l = absurd (omega (arith, l))
split (x ∷ xs) zero d l = refl
split (x ∷ xs) (suc i) d l =
    let more : i < length xs = omega (arith, l) in
    let next : suc (i + 1) ≡ suc i + 1 = omega arith in
    ap (λ t. x ∷ t) (split xs i d more)
    ∙ ap (λ n. x ∷ take i xs ++ get_or xs i d ∷ drop n (x ∷ xs)) next

-- what doesn't come where some bytes did
pub not_due_after : (due : List ℕ) (i d number : ℕ) (bytes : List ℕ) (left : Option (List ℕ))
    (error : ScriptError) → i < length due →
    ((more : List ℕ) → IsNotDue (get_or due i d ∷ more) number bytes left error) →
    IsNotDue due number (take i due ++ bytes) left error
not_due_after due i d number bytes left error l h =
    subst (λ t. IsNotDue t number (take i due ++ bytes) left error) (sym (split due i d l))
    (not_due_behind (take i due) (get_or due i d ∷ drop (i + 1) due) number bytes left error
    (h (drop (i + 1) due)))
