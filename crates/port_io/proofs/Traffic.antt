-- Laws of what calls took and put: of one call, of none, and of one call after another.
use Rattle.std.proofs.Common.{◌≡◌, ◌≤◌, ◌++◌, ℕ, List, [], ◌∷◌, None, Some, take, length, refl, sym, ap, subst, ◌∙◌, append_assoc, append-nil, arith}
use Rattle.std.proofs.lemmas.List.{map-append}
use Rattle.std.specs.declared.option.Option.{Option}
use Rattle.port_io.specs.Port.{WhereTold, Leaves, Notes, Writes, sent}
use Rattle.port_io.specs.Traffic.{taken, noted, takings, Takes, Grows, Goes, IsAtEnd}
use Rattle.port_io.specs.declared.port.TapeByte.{TapeByte}
use Rattle.port_io.specs.declared.port.TapeByte.TheVariants.{Taken, Sent}
use Rattle.port_io.specs.declared.port.Take.{Take}
use Rattle.port_io.specs.declared.port.Take.TheVariants.{Byte, End, Failed}
use Rattle.port_io.specs.declared.port.Put.{Put}
use Rattle.port_io.specs.declared.port.Put.TheVariants.{Done, Failed as NotPut}

-- ---- the bytes taken of a stretch of tape

pub takings-append : (xs ys : List TapeByte) → takings (xs ++ ys) ≡ takings xs ++ takings ys
takings-append [] ys = refl
takings-append (Taken b ∷ xs) ys = ap (λ l. b ∷ l) (takings-append xs ys)
takings-append (Sent b ∷ xs) ys = takings-append xs ys

pub takings-taken : (bytes : List ℕ) → takings (taken bytes) ≡ bytes
takings-taken [] = refl
takings-taken (b ∷ bytes) = ap (λ l. b ∷ l) (takings-taken bytes)

pub takings-sent : (bytes : List ℕ) → takings (sent bytes) ≡ []
takings-sent [] = refl
takings-sent (b ∷ bytes) = takings-sent bytes

-- ---- nothing, one after another, and one call

pub takes_nil : (a : Option (List ℕ)) → Takes [] a a
takes_nil None = tt
takes_nil (Some x) = refl

pub takes_both : (xs ys : List ℕ) (a b c : Option (List ℕ)) → Takes xs a b → Takes ys b c →
    Takes (xs ++ ys) a c
takes_both xs ys None None None p q = tt
takes_both xs ys None None (Some z) p q = q
takes_both xs ys None (Some y) c p q = absurd p
takes_both xs ys (Some x) None c p q = absurd p
takes_both xs ys (Some x) (Some y) None p q = q
takes_both xs ys (Some x) (Some y) (Some z) p q = p ∙ ap (λ l. xs ++ l) q
    ∙ sym (append_assoc xs ys z)

pub grows_nil : (a : Option (List TapeByte)) → Grows [] a a
grows_nil None = tt
grows_nil (Some x) = sym (append-nil x)

pub grows_both : (xs ys : List TapeByte) (a b c : Option (List TapeByte)) → Grows xs a b →
    Grows ys b c → Grows (xs ++ ys) a c
grows_both xs ys None None None p q = tt
grows_both xs ys None None (Some z) p q = q
grows_both xs ys None (Some y) c p q = absurd p
grows_both xs ys (Some x) None c p q = absurd p
grows_both xs ys (Some x) (Some y) None p q = q
grows_both xs ys (Some x) (Some y) (Some z) p q = q ∙ ap (λ l. l ++ ys) p ∙ append_assoc x xs ys

-- what it says of the bytes left, and of the tape
pub goes_takes : (items : List TapeByte) (a b : Option (List ℕ)) (t u : Option (List TapeByte)) →
    Goes items a b t u → Takes (takings items) a b
unfolding Goes
goes_takes items a b t u went = went.0

pub goes_grows : (items : List TapeByte) (a b : Option (List ℕ)) (t u : Option (List TapeByte)) →
    Goes items a b t u → Grows items t u
unfolding Goes
goes_grows items a b t u went = went.1

-- nothing went in or out
pub goes_nothing : (left : Option (List ℕ)) (tape : Option (List TapeByte)) →
    Goes [] left left tape tape
unfolding Goes
goes_nothing left tape = (takes_nil left, grows_nil tape)

-- one call after another
pub goes_both : (xs ys : List TapeByte) (a b c : Option (List ℕ)) (t u v : Option (List TapeByte)) →
    Goes xs a b t u → Goes ys b c u v → Goes (xs ++ ys) a c t v
unfolding Goes
goes_both xs ys a b c t u v first second = (
  subst (λ l. Takes l a c) (sym (takings-append xs ys)) (takes_both (takings xs) (takings ys) a b c
      first.0 second.0),
  grows_both xs ys t u v first.1 second.1,
)

-- ---- one take

leaves_takes : (r : Take) (a b : Option (List ℕ)) → WhereTold (Leaves r) a b →
    Takes (takings (noted r)) a b
leaves_takes (Byte b) None None p = tt
leaves_takes (Byte b) None (Some y) p = p
leaves_takes (Byte b) (Some x) None p = p
leaves_takes (Byte b) (Some x) (Some y) p = p
leaves_takes End None None p = tt
leaves_takes End None (Some y) p = p
leaves_takes End (Some x) None p = p
leaves_takes End (Some x) (Some y) p = p.0 ∙ sym p.1
leaves_takes Failed None None p = tt
leaves_takes Failed None (Some y) p = p
leaves_takes Failed (Some x) None p = p
leaves_takes Failed (Some x) (Some y) p = sym p

notes_grows : (r : Take) (t u : Option (List TapeByte)) → WhereTold (Notes r) t u →
    Grows (noted r) t u
notes_grows r None None p = tt
notes_grows r None (Some y) p = p
notes_grows r (Some x) None p = p
notes_grows (Byte b) (Some x) (Some y) p = p
notes_grows End (Some x) (Some y) p = p ∙ sym (append-nil x)
notes_grows Failed (Some x) (Some y) p = p ∙ sym (append-nil x)

-- a take, whatever it answers
pub goes_take : (r : Take) (a b : Option (List ℕ)) (t u : Option (List TapeByte)) →
    WhereTold (Leaves r) a b → WhereTold (Notes r) t u → Goes (noted r) a b t u
unfolding Goes
goes_take r a b t u p q = (leaves_takes r a b p, notes_grows r t u q)

pub goes_byte : (byte : ℕ) (a b : Option (List ℕ)) (t u : Option (List TapeByte)) →
    WhereTold (Leaves (Byte byte)) a b → WhereTold (Notes (Byte byte)) t u →
    Goes (Taken byte ∷ []) a b t u
goes_byte byte = goes_take (Byte byte)

pub goes_end : (a b : Option (List ℕ)) (t u : Option (List TapeByte)) → WhereTold (Leaves End) a b →
    WhereTold (Notes End) t u → Goes [] a b t u
goes_end = goes_take End

pub goes_failed : (a b : Option (List ℕ)) (t u : Option (List TapeByte)) →
    WhereTold (Leaves Failed) a b → WhereTold (Notes Failed) t u → Goes [] a b t u
goes_failed = goes_take Failed

-- an end is reported only where nothing is left
pub at_end : (a b : Option (List ℕ)) → WhereTold (Leaves End) a b → IsAtEnd b
at_end None None p = tt
at_end None (Some y) p = absurd p
at_end (Some x) None p = tt
at_end (Some x) (Some y) p = p.1

-- ---- one put

-- the bytes that were put
sent_goes : (bytes : List ℕ) (a b : Option (List ℕ)) (t u : Option (List TapeByte)) → b ≡ a →
    Grows (sent bytes) t u → Goes (sent bytes) a b t u
unfolding Goes
sent_goes bytes a b t u kept grew = (
  subst (λ l. Takes l a b) (sym (takings-sent bytes))
      (subst (λ c. Takes [] a c) (sym kept) (takes_nil a)),
  grew,
)

-- a put that is done
pub goes_put : (bytes : List ℕ) (a b : Option (List ℕ)) (t u : Option (List TapeByte)) → b ≡ a →
    WhereTold (Writes Done bytes) t u → Goes (sent bytes) a b t u
goes_put bytes a b t u kept wrote = sent_goes bytes a b t u kept (grew t u wrote)
  where
    grew : (t u : Option (List TapeByte)) → WhereTold (Writes Done bytes) t u →
        Grows (sent bytes) t u
    grew None None p = tt
    grew None (Some y) p = p
    grew (Some x) None p = p
    grew (Some x) (Some y) p = p

-- a put that failed: a front of the bytes was put
pub goes_cut : (bytes : List ℕ) (a b : Option (List ℕ)) (t u : Option (List TapeByte)) →
    b ≡ a → WhereTold (Writes NotPut bytes) t u → (n : ℕ) × (n ≤ length bytes)
    × Goes (sent (take n bytes)) a b t u
goes_cut bytes a b t u kept wrote = let cut = grew t u wrote in
    (cut.0, cut.1, sent_goes (take cut.0 bytes) a b t u kept cut.2)
  where
    grew : (t u : Option (List TapeByte)) → WhereTold (Writes NotPut bytes) t u →
        (n : ℕ) × (n ≤ length bytes) × Grows (sent (take n bytes)) t u
    grew None None p = (0, omega arith, tt)
    grew None (Some y) p = absurd p
    grew (Some x) None p = absurd p
    grew (Some x) (Some y) p = p

-- ---- one more step after what was taken and put so far. The equations are premises, so that a
-- hand answer can leave each to `search rules`

-- a take after what was taken and put so far
pub goes_more : (items items' : List TapeByte) (r : Take) (a b c : Option (List ℕ))
    (t u v : Option (List TapeByte)) → Goes items a b t u → WhereTold (Leaves r) b c →
    WhereTold (Notes r) u v → items' ≡ items ++ noted r → Goes items' a c t v
goes_more items items' r a b c t u v first p q e = subst (λ l. Goes l a c t v) (sym e)
    (goes_both items (noted r) a b c t u v first (goes_take r b c u v p q))

-- a further byte of a text that is taken
pub goes_taken : (bytes bytes' : List ℕ) (byte : ℕ) (r : Take) (a b c : Option (List ℕ))
    (t u v : Option (List TapeByte)) → Goes (taken bytes) a b t u → WhereTold (Leaves r) b c →
    WhereTold (Notes r) u v → r ≡ Byte byte → bytes' ≡ bytes ++ byte ∷ [] →
    Goes (taken bytes') a c t v
goes_taken bytes bytes' byte r a b c t u v first p q is e =
    goes_more (taken bytes) (taken bytes') r a b c t u v first p q (ap taken e
    ∙ map-append Taken bytes (byte ∷ []) ∙ ap (λ l. taken bytes ++ noted l) (sym is))

-- the same without equations: the form for `using`, which finds them by itself. A loop that takes a
-- line needs `goes_nothing`, this and `at_end`; a put after it `goes_sent`
pub goes_on : (bytes : List ℕ) (byte : ℕ) (a b c : Option (List ℕ)) (t u v : Option
    (List TapeByte)) → Goes (taken bytes) a b t u → WhereTold (Leaves (Byte byte)) b c →
    WhereTold (Notes (Byte byte)) u v → Goes (taken (bytes ++ byte ∷ [])) a c t v
goes_on bytes byte a b c t u v first p q =
    goes_taken bytes (bytes ++ byte ∷ []) byte (Byte byte) a b c t u v first p q refl refl

-- a put that is done after what was taken and put so far
pub goes_sent : (items items' : List TapeByte) (bytes : List ℕ) (r : Put) (a b c : Option (List ℕ))
    (t u v : Option (List TapeByte)) → Goes items a b t u → c ≡ b → WhereTold (Writes r bytes) u v →
    r ≡ Done → items' ≡ items ++ sent bytes → Goes items' a c t v
goes_sent items items' bytes r a b c t u v first kept wrote is e =
    subst (λ l. Goes l a c t v) (sym e) (goes_both items (sent bytes) a b c t u v first
    (goes_put bytes b c u v kept (subst (λ x. WhereTold (Writes x bytes) u v) is wrote)))
