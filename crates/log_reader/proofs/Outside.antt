-- The first line that no log has.
use Rattle.std.proofs.Common.{◌≡◌, ◌≢◌, ◌<◌, ⊎_elim, ℕ, ◌+◌, true, false, List, [], ◌∷◌, ◌++◌, length, map, take, All, Result, Ok, Err, bytes_eq, codes, refl, sym, ap, subst, ◌∙◌, append_assoc, append-nil, length-append, arith}
use Rattle.std.proofs.lemmas.List.{length-map}
use Rattle.std.proofs.lemmas.List.Concat.{flat_map-append}
use Rattle.std.specs.Prelude.{IfErr, IfOk}
use Rattle.std.proofs.lemmas.Bool.{cases_lt, false≢true}
use Rattle.std.proofs.lemmas.List.Elements.{All-append, All-cons, All-head, All-nil, All-tail}
use Rattle.report_model.specs.Logs.{BeginsLog, HasNoFeed, IsFirstOutside, IsLog, IsLogged, LoggedStep, OneFaultLaw, fed, first_line, last_line, log_text, logged_line, words_of}
use Rattle.log_reader.specs.Words.{lacks, words_in}
use Rattle.log_reader.specs.Steps.{AreReadAs, IsRefusal}
use Rattle.log_reader.specs.declared.error.LogError.{LogError}
use Rattle.log_reader.specs.declared.error.LogError.TheVariants.{Fault, Memory}
use Rattle.log_reader.proofs.Bytes.{lacks_feed, no_feed, not_lacking, same_front}
use Rattle.log_reader.proofs.Spelled.{bare, bare_words, lacks_bare}
use Rattle.log_reader.proofs.Aligned.{Goes, aligned, first_then, lines_of, none_behind, one_log_law, unheaded}

-- ---- two faults

-- a line that stands after these lines, where the text has more lines
record Next (front more rest : List ℕ) : Type 0 where
  next : List ℕ
  after : List ℕ
  tail : List ℕ
  whole : HasNoFeed next
  rest_is : rest ≡ next ++ 10 ∷ after
  more_is : more ≡ (front ++ (next ++ 10 ∷ [])) ++ tail

next_line : (a b : List (List ℕ)) (x y : List ℕ) → All HasNoFeed a → All HasNoFeed b →
    length a < length b → fed a ++ x ≡ fed b ++ y → Next (fed a) (fed b) x
next_line a [] x y p q l e = absurd (omega arith)
next_line [] (k ∷ b) x y p q l e = record {
  next = k;
  after = fed b ++ y;
  tail = fed b;
  whole = All-head HasNoFeed k b q;
  rest_is = e ∙ append_assoc (k ++ 10 ∷ []) (fed b) y ∙ append_assoc k (10 ∷ []) (fed b ++ y);
  more_is = refl;
}
next_line (j ∷ a) (k ∷ b) x y p q l e =
    let h = same_front 10 j k (fed a ++ x) (fed b ++ y)
    (lacks_feed j (All-head HasNoFeed j a p)) (lacks_feed k (All-head HasNoFeed k b q))
    (sym (append_assoc (j ++ 10 ∷ []) (fed a) x ∙ append_assoc j (10 ∷ []) (fed a ++ x)) ∙ e
    ∙ append_assoc (k ++ 10 ∷ []) (fed b) y ∙ append_assoc k (10 ∷ []) (fed b ++ y)) in
    let shorter : length a < length b = omega (arith, l) in
    let n = next_line a b x y (All-tail HasNoFeed j a p) (All-tail HasNoFeed k b q) shorter h.1 in
    record {
      next = n.next;
      after = n.after;
      tail = n.tail;
      whole = n.whole;
      rest_is = n.rest_is;
      more_is = ap (λ t. (t ++ 10 ∷ []) ++ fed b) (sym h.0)
          ∙ ap (λ t. (j ++ 10 ∷ []) ++ t) n.more_is
          ∙ sym (append_assoc (j ++ 10 ∷ []) (fed a ++ (n.next ++ 10 ∷ [])) n.tail)
          ∙ ap (λ t. t ++ n.tail) (sym (append_assoc (j ++ 10 ∷ []) (fed a) (n.next ++ 10 ∷ [])));
    }

begins_less : (front tail : List ℕ) → BeginsLog (front ++ tail) → BeginsLog front
begins_less front tail b = record {
  steps = b.steps;
  rest = tail ++ b.rest;
  is_log = record {
    each = b.is_log.each;
    text_is = sym (append_assoc front tail b.rest) ∙ b.is_log.text_is;
  };
}

not_later : (text : List ℕ) (one two : ℕ) → IsFirstOutside text one → IsFirstOutside text two →
    one < two → ⊥
not_later text one two p q l =
    let shorter : length p.before < length q.before = omega (arith, l, p.number_is, q.number_is) in
    let n = next_line p.before q.before p.rest q.rest p.whole q.whole shorter
    (sym p.text_is ∙ q.text_is) in
    p.outside n.next n.after n.whole n.rest_is
    (begins_less (fed p.before ++ (n.next ++ 10 ∷ [])) n.tail (subst BeginsLog n.more_is q.begins))

pub one_fault_law : OneFaultLaw
one_fault_law text one two p q =
    ⊎_elim (λ less. absurd (not_later text one two p q less))
    (λ least. ⊎_elim (λ less. absurd (not_later text two one q p less))
    (λ most. omega (arith, least, most)) (cases_lt two one)) (cases_lt one two)

-- ---- what was read so far

-- the first line, and the lines of these steps
abbrev pub so_far : List LoggedStep → List ℕ
so_far steps = first_line ++ lines_of steps

abbrev before_steps : List LoggedStep → List (List ℕ)
before_steps steps = codes "log 1" ∷ map bare steps

fed_steps : (steps : List LoggedStep) → fed (map bare steps) ≡ lines_of steps
fed_steps [] = refl
fed_steps (s ∷ steps) = ap (λ t. (bare s ++ 10 ∷ []) ++ t) (fed_steps steps)

fed_before : (steps : List LoggedStep) → fed (before_steps steps) ≡ so_far steps
fed_before steps = ap (λ t. first_line ++ t) (fed_steps steps)

whole_steps : (steps : List LoggedStep) → All IsLogged steps → All HasNoFeed (map bare steps)
whole_steps [] p = All-nil HasNoFeed
whole_steps (s ∷ steps) p =
    All-cons HasNoFeed (bare s) (map bare steps)
    (no_feed (bare s) (lacks_bare s (All-head IsLogged s steps p)))
    (whole_steps steps (All-tail IsLogged s steps p))

whole_before : (steps : List LoggedStep) → All IsLogged steps → All HasNoFeed (before_steps steps)
whole_before steps p =
    All-cons HasNoFeed (codes "log 1") (map bare steps) (no_feed (codes "log 1") refl)
    (whole_steps steps p)

-- how a log goes on that begins with what was read
goes_on : (steps whole : List LoggedStep) (rest : List ℕ) → All IsLogged steps →
    All IsLogged whole → so_far steps ++ rest ≡ log_text whole → Goes steps whole rest
goes_on steps whole rest p q e =
    aligned steps whole rest p q
    (unheaded (lines_of steps ++ rest) (lines_of whole ++ last_line)
    (sym (append_assoc first_line (lines_of steps) rest) ∙ e
    ∙ append_assoc first_line (lines_of whole) last_line))

pub read_so : (text : List ℕ) (steps : List LoggedStep) → All IsLogged steps →
    text ≡ so_far steps ++ last_line → IsLog text steps
read_so text steps p e = record { each = p; text_is = e }

-- the line after what was read is the first that no log has
outside_at : (text rest : List ℕ) (steps : List LoggedStep) (number : ℕ) → All IsLogged steps →
    text ≡ so_far steps ++ rest → number ≡ length steps + 2 →
    ((whole : List LoggedStep) → IsLog text whole → ⊥) →
    ((next after : List ℕ) → HasNoFeed next → rest ≡ next ++ 10 ∷ after →
    BeginsLog (so_far steps ++ (next ++ 10 ∷ [])) → ⊥) →
    IsFirstOutside text number
outside_at text rest steps number p e n no_log outside = record {
  before = before_steps steps;
  rest = rest;
  text_is = e ∙ ap (λ t. t ++ rest) (sym (fed_before steps));
  number_is = let long = length-map steps bare in omega (arith, n, long);
  whole = whole_before steps p;
  begins = record {
    steps = steps;
    rest = last_line;
    is_log = record { each = p; text_is = ap (λ t. t ++ last_line) (fed_before steps) };
  };
  no_log = no_log;
  outside = λ next after whole is begins. outside next after whole is
      (subst (λ t. BeginsLog (t ++ (next ++ 10 ∷ []))) (fed_before steps) begins);
}

-- one step more
pub one_more : (text left line behind : List ℕ) (steps : List LoggedStep) (s : LoggedStep) →
    text ≡ so_far steps ++ left → left ≡ line ++ 10 ∷ behind → line ≡ bare s →
    text ≡ so_far (steps ++ s ∷ []) ++ behind
one_more text left line behind steps s e cut is =
    e ∙ ap (λ t. so_far steps ++ t) (cut ∙ ap (λ t. t ++ 10 ∷ behind) is ∙ fed_line)
    ∙ append_assoc first_line (lines_of steps) (logged_line s ++ behind)
    ∙ ap (λ t. first_line ++ t) (sym (append_assoc (lines_of steps) (logged_line s) behind)
    ∙ ap (λ t. t ++ behind) (sym lines))
    ∙ sym (append_assoc first_line (lines_of (steps ++ s ∷ [])) behind)
  where
    fed_line : bare s ++ 10 ∷ behind ≡ logged_line s ++ behind
    fed_line = sym (append_assoc (bare s) (10 ∷ []) behind)

    lines : lines_of (steps ++ s ∷ []) ≡ lines_of steps ++ logged_line s
    lines =
        flat_map-append logged_line steps (s ∷ [])
        ∙ ap (λ t. lines_of steps ++ t) (append-nil (logged_line s))

-- ---- a line that is no step's

not_begun : (steps : List LoggedStep) (line : List ℕ) → All IsLogged steps →
    lacks 10 line ≡ true → bytes_eq line (codes "end log") ≡ false →
    ((step : LoggedStep) → IsLogged step → words_in line ≡ words_of step → ⊥) →
    BeginsLog (so_far steps ++ (line ++ 10 ∷ [])) → ⊥
not_begun steps line p n other none b =
    by (goes_on steps b.steps (line ++ 10 ∷ b.rest) p b.is_log.each
    (sym (append_assoc (so_far steps) (line ++ 10 ∷ []) b.rest
    ∙ ap (λ t. so_far steps ++ t) (append_assoc line (10 ∷ []) b.rest)) ∙ b.is_log.text_is))
  where
    ends : (more : List LoggedStep) → All IsLogged more →
        line ++ 10 ∷ b.rest ≡ lines_of more ++ last_line → ⊥
    ends [] q e =
        let h = same_front 10 line (codes "end log") b.rest [] n refl e in
        false≢true (sym other ∙ ap (λ t. bytes_eq t (codes "end log")) h.0)
    ends (s ∷ more) q e =
        let own = All-head IsLogged s more q in
        let h = same_front 10 line (bare s) b.rest (lines_of more ++ last_line) n
        (lacks_bare s own) (e ∙ first_then s more last_line) in
        none s own (ap words_in h.0 ∙ bare_words s own)

    by : Goes steps b.steps (line ++ 10 ∷ b.rest) → ⊥
    by g = ends g.more g.each g.rest_is

pub no_step : (text rest line behind : List ℕ) (steps : List LoggedStep) (number : ℕ) →
    All IsLogged steps → text ≡ so_far steps ++ rest → number ≡ length steps + 2 →
    rest ≡ line ++ 10 ∷ behind → lacks 10 line ≡ true → bytes_eq line (codes "end log") ≡ false →
    ((step : LoggedStep) → IsLogged step → words_in line ≡ words_of step → ⊥) →
    IsFirstOutside text number
no_step text rest line behind steps number p e n cut lack other none =
    outside_at text rest steps number p e n no_log outside
  where
    fails : BeginsLog (so_far steps ++ (line ++ 10 ∷ [])) → ⊥
    fails b = not_begun steps line p lack other none b

    no_log : (whole : List LoggedStep) → IsLog text whole → ⊥
    no_log whole h = fails (record {
      steps = whole;
      rest = behind;
      is_log = record {
        each = h.each;
        text_is = append_assoc (so_far steps) (line ++ 10 ∷ []) behind
            ∙ ap (λ t. so_far steps ++ t) (append_assoc line (10 ∷ []) behind ∙ sym cut)
            ∙ sym e ∙ h.text_is;
      };
    })

    outside : (next after : List ℕ) → HasNoFeed next → rest ≡ next ++ 10 ∷ after →
        BeginsLog (so_far steps ++ (next ++ 10 ∷ [])) → ⊥
    outside next after whole is begins =
        let h = same_front 10 next line after behind (lacks_feed next whole) lack (sym is ∙ cut) in
        fails (subst (λ t. BeginsLog (so_far steps ++ (t ++ 10 ∷ []))) h.0 begins)

-- ---- the text ends within a line

pub no_line : (text rest : List ℕ) (steps : List LoggedStep) (number : ℕ) → All IsLogged steps →
    text ≡ so_far steps ++ rest → number ≡ length steps + 2 → lacks 10 rest ≡ true →
    IsFirstOutside text number
no_line text rest steps number p e n lack =
    outside_at text rest steps number p e n no_log
    (λ next after whole is begins. not_lacking 10 next after (ap (lacks 10) (sym is) ∙ lack))
  where
    ends : (more : List LoggedStep) → rest ≡ lines_of more ++ last_line → ⊥
    ends [] is = not_lacking 10 (codes "end log") [] (ap (lacks 10) (sym is) ∙ lack)
    ends (s ∷ more) is =
        not_lacking 10 (bare s) (lines_of more ++ last_line)
        (ap (lacks 10) (sym (is ∙ first_then s more last_line)) ∙ lack)

    no_log : (whole : List LoggedStep) → IsLog text whole → ⊥
    no_log whole h =
        let g = goes_on steps whole rest p h.each (sym e ∙ h.text_is) in ends g.more g.rest_is

-- ---- something stands after the last line

pub too_much : (text behind : List ℕ) (steps : List LoggedStep) (number : ℕ) →
    All IsLogged steps → text ≡ so_far steps ++ (last_line ++ behind) → behind ≢ [] →
    number ≡ length steps + 3 → IsFirstOutside text number
too_much text behind steps number p e some n = record {
  before = before_steps steps ++ codes "end log" ∷ [];
  rest = behind;
  text_is = e ∙ sym (append_assoc (so_far steps) last_line behind)
      ∙ ap (λ t. t ++ behind) (sym all_fed);
  number_is =
      let long = length-append (before_steps steps) (codes "end log" ∷ []) in
      let steps_long = length-map steps bare in omega (arith, n, long, steps_long);
  whole = All-append HasNoFeed (before_steps steps) (codes "end log" ∷ []) (whole_before steps p)
      (All-cons HasNoFeed (codes "end log") [] (no_feed (codes "end log") refl)
      (All-nil HasNoFeed));
  begins = record {
    steps = steps;
    rest = [];
    is_log = record { each = p; text_is = append-nil _ ∙ all_fed };
  };
  no_log = λ whole h. some (nothing whole behind h.each (sym e ∙ h.text_is));
  outside = λ next after whole is begins. absurd (not_nothing next begins.rest
      (nothing begins.steps ((next ++ 10 ∷ []) ++ begins.rest) begins.is_log.each
      (sym (append_assoc (so_far steps) last_line ((next ++ 10 ∷ []) ++ begins.rest))
      ∙ ap (λ t. t ++ ((next ++ 10 ∷ []) ++ begins.rest)) (sym all_fed)
      ∙ sym (append_assoc (fed (before_steps steps ++ codes "end log" ∷ [])) (next ++ 10 ∷ [])
      begins.rest) ∙ begins.is_log.text_is)));
}
  where
    feds : (a b : List (List ℕ)) → fed (a ++ b) ≡ fed a ++ fed b
    feds [] b = refl
    feds (x ∷ a) b =
        ap (λ t. (x ++ 10 ∷ []) ++ t) (feds a b) ∙ sym (append_assoc (x ++ 10 ∷ []) (fed a) (fed b))

    all_fed : fed (before_steps steps ++ codes "end log" ∷ []) ≡ so_far steps ++ last_line
    all_fed =
        feds (before_steps steps) (codes "end log" ∷ [])
        ∙ ap (λ t. t ++ last_line) (fed_before steps)

    nothing : (whole : List LoggedStep) (rest : List ℕ) → All IsLogged whole →
        so_far steps ++ (last_line ++ rest) ≡ log_text whole → rest ≡ []
    nothing whole rest q is =
        let g = goes_on steps whole (last_line ++ rest) p q is in
        (none_behind g.more rest g.each g.rest_is).1

    not_nothing : (next rest : List ℕ) → (next ++ 10 ∷ []) ++ rest ≡ [] → ⊥
    not_nothing [] rest is = absurd (cc)
    not_nothing (b ∷ next) rest is = absurd (cc)

-- ---- the first line

pub no_head : (text : List ℕ) → bytes_eq (take 6 text) first_line ≡ false → IsFirstOutside text 1
no_head text other = record {
  before = [];
  rest = text;
  text_is = refl;
  number_is = refl;
  whole = All-nil HasNoFeed;
  begins = record {
    steps = [];
    rest = log_text [];
    is_log = record { each = All-nil IsLogged; text_is = refl };
  };
  no_log = λ whole h. differs (lines_of whole ++ last_line)
      (h.text_is ∙ append_assoc first_line (lines_of whole) last_line);
  outside = λ next after whole is begins.
      let h = same_front 10 next (codes "log 1") begins.rest (lines_of begins.steps ++ last_line)
      (lacks_feed next whole) refl
      (sym (append_assoc next (10 ∷ []) begins.rest) ∙ begins.is_log.text_is
      ∙ append_assoc first_line (lines_of begins.steps) last_line) in
      differs after (is ∙ ap (λ t. t ++ 10 ∷ after) h.0);
}
  where
    differs : (rest : List ℕ) → text ≡ first_line ++ rest → ⊥
    differs rest is =
        false≢true (sym other ∙ ap (λ t. bytes_eq (take 6 t) first_line) is)

-- ---- what is spelled is read

abbrev ReadsWell : {A : Type 0} → (A → List LoggedStep) → List ℕ → Result A LogError → Type 0
ReadsWell steps_in text (Ok found) = IsLog text (steps_in found)
ReadsWell steps_in text (Err error) = IsRefusal text error

pub read_well : {A : Type 0} (steps_in : A → List LoggedStep) (text : List ℕ)
    (result : Result A LogError) → IfOk result (λ found. IsLog text (steps_in found)) →
    IfErr result (IsRefusal text) → ReadsWell steps_in text result
read_well steps_in text (Ok found) p q = p
read_well steps_in text (Err error) p q = q

pub read_as : {A : Type 0} (steps_in : A → List LoggedStep) (text : List ℕ)
    (result : Result A LogError) → ReadsWell steps_in text result →
    (steps : List LoggedStep) → IsLog text steps → AreReadAs steps_in steps result
read_as steps_in text (Ok found) h steps is = one_log_law text (steps_in found) steps h is
read_as steps_in text (Err (Fault line)) h steps is = h.no_log steps is
read_as steps_in text (Err Memory) h steps is = tt
