-- A command without subcommands takes the words at which clap finds no fault. Both are said by
-- clap, clause by clause in the same order: what passes, and the kinds of faults; here each clause
-- of the one follows from that of the other.
use Rattle.std.proofs.Common.{◌≡◌, ◌∙◌, ◌+◌, ◌&&◌, ◌||◌, ◌==◌, ◌⊎◌, inl, inr, not, is_some, ℕ, zero, suc, Bool, true, false, List, [], ◌∷◌, length, drop, refl, sym, ap, arith, Option, Some, None}
use Rattle.std.specs.Prelude.{codes, encode_utf8, if◌then◌else◌, min, nat_le, nat_lt, slice_get}
use Rattle.std.specs.Option.{option_map_or}
use Rattle.std.specs.List.{list_all}
use Rattle.std.specs.Str.{bytes_eq, chars}
use Rattle.std.proofs.lemmas.Bool.Decides.{nat_tests}
use Rattle.clap.specs.Facts.{unwrap_or_range}
use Rattle.clap.specs.Lexer.{long_of, short_of}
use Rattle.clap.specs.Matches.{count_text}
use Rattle.clap.specs.Kinds.{Kinds, or_else, range_kinds}
use Rattle.clap.specs.Faults
use Rattle.clap.specs.Faults.{action_fault, bundle_step_fault, built_fault, count_fault, entered_fault, fault_of, flag_word_fault, flags_fault, level_fault, long_fault, option_fault, other_fault, positional_fault, react_fault, set_fault, settle_fault, short_fault, step_fault, stray_fault, turn_fault, use_fault, values_fault, walk_fault, word_fault}
use Rattle.clap.specs.Simple.{App, Shape, argument_words, built, entered, is_simple}
use Rattle.clap.specs.Takes.{action_passes, bundle_passes, bundle_step_passes, built_takes, count_passes, default_passes, flag_word_passes, flags_pass, is_valid, level_passes, long_passes, option_passes, other_passes, positional_passes, react_passes, set_passes, settle_passes, short_passes, step_passes, takes, turn_passes, use_passes, value_passes, values_pass, walk_passes, word_passes}
use Rattle.clap.specs.Walk.{Held, Names, Row, Rule, Step, Text, Waiting, Walk, action_of, arg_by_id, arg_by_index, arg_by_long, arg_by_short, attached_value, count_of, finished, has_row, is_pending, most_values, next, nothing_held, reacted, settled, subcommand, subcommand_met, takes_several, takes_values, trailing, value, values_or_missing, walk, walk_from, walked, word_met}
use Rattle.clap.specs.declared.builder.action.ArgAction.{ArgAction}
use Rattle.clap.specs.declared.builder.action.ArgAction.TheVariants.{Set, Append, SetTrue, SetFalse, Count, Help, HelpShort, HelpLong, Version}
use Rattle.clap.specs.declared.error.kind.ErrorKind.{ErrorKind}
use Rattle.clap.specs.declared.error.kind.ErrorKind.TheVariants as kind
use Rattle.clap.proofs.TakesLemmas.{leaf_takes}

-- ---- truth values and kinds

split : (a b : Kinds) → or_else a b ≡ [] → (a ≡ []) × (b ≡ [])
split [] b e = (refl, e)
split (k ∷ ks) b e = (cc, cc)

all : (a b : Bool) → a ≡ true → b ≡ true → (a && b) ≡ true
all true b h k = k
all false b h k = cc

fault_else : (t : Bool) (k : ErrorKind) (ks : Kinds) → (if t then [] else k ∷ ks) ≡ [] → t ≡ true
fault_else true k ks e = refl
fault_else false k ks e = cc

fault_if_not : (has again : Bool) (k : ErrorKind) (ks : Kinds) →
    (if has && not again then k ∷ ks else []) ≡ [] → (not has || again) ≡ true
fault_if_not true true k ks e = refl
fault_if_not true false k ks e = cc
fault_if_not false again k ks e = refl

-- ---- one use of an option

values_ok : (a : Rule) (vs : List Text) → values_fault a vs ≡ [] → values_pass a vs ≡ true
values_ok a [] e = refl
values_ok a (v ∷ vs) e =
    let p = split _ _ e in
    all _ _ (fault_else (value_passes a v) _ [] p.0) (values_ok a vs p.1)

set_ok : (again : Bool) (a : Rule) (values : List Text) (rows : List Row) →
    set_fault again a values rows ≡ [] → set_passes again a values rows ≡ true
set_ok again a values rows e =
    let p = split _ _ e in
    all _ _ (fault_if_not (has_row a.id rows) again _ [] p.0) (values_ok a values p.1)

count_ok : (a : Rule) (values : List Text) (rows : List Row) → count_fault a values rows ≡ [] →
    count_passes a values rows ≡ true
count_ok a [] rows e =
    fault_else (value_passes a (count_text (min (count_of a.id rows + 1) 255))) _ [] e
count_ok a (v ∷ vs) rows e = values_ok a (v ∷ vs) e

action_ok : (x : ArgAction) (again : Bool) (a : Rule) (values : List Text) (rows : List Row) →
    action_fault x again a values rows ≡ [] → action_passes x again a values rows ≡ true
action_ok Set again a values rows e = set_ok again a values rows e
action_ok Append again a values rows e = values_ok a values e
action_ok SetTrue again a values rows e = set_ok again a values rows e
action_ok SetFalse again a values rows e = set_ok again a values rows e
action_ok Count again a values rows e = count_ok a values rows e
action_ok Help again a values rows e = cc
action_ok HelpShort again a values rows e = cc
action_ok HelpLong again a values rows e = cc
action_ok Version again a values rows e = cc

-- the tests of a range, one after another
range_by : (a b c d f : Bool) (k l m o : ErrorKind) →
    (if a then k ∷ [] else (if b then (if c then [] else l ∷ []) else
    (if d then m ∷ [] else (if f then o ∷ [] else [])))) ≡ [] →
    ((b ≡ true) × (c ≡ true)) ⊎ ((d ≡ false) × (f ≡ false))
range_by true b c d f k l m o e = cc
range_by false true true d f k l m o e = inl (refl, refl)
range_by false true false d f k l m o e = cc
range_by false false c true f k l m o e = cc
range_by false false c false true k l m o e = cc
range_by false false c false false k l m o e = inr (refl, refl)

range_ok : (least most n : ℕ) → range_kinds least most n ≡ [] →
    (nat_le least n ≡ true) × (nat_le n most ≡ true)
range_ok least most n e =
    elim (range_by (nat_lt 0 least && n == 0) (least == most) (least == n) (nat_lt n least)
    (nat_lt most n) _ _ _ _ e) [
      | inl h ↦ both_equal h.0 h.1
      | inr h ↦ between h.0 h.1
    ]
  where
    both_equal : (least == most) ≡ true → (least == n) ≡ true →
        (nat_le least n ≡ true) × (nat_le n most ≡ true)
    both_equal p q = (grind (arith, nat_tests), grind (arith, nat_tests))

    between : nat_lt n least ≡ false → nat_lt most n ≡ false →
        (nat_le least n ≡ true) × (nat_le n most ≡ true)
    between p q = (grind (arith, nat_tests), grind (arith, nat_tests))

use_ok : (again : Bool) (a : Rule) (values : List Text) (rows : List Row) →
    use_fault again a values rows ≡ [] → use_passes again a values rows ≡ true
use_ok again a values rows e =
    let p = split _ _ e in
    let r = range_ok (unwrap_or_range a.range).start_inclusive (most_values a) (length values)
    p.0 in
    all _ _ r.0
    (all _ _ r.1 (action_ok (action_of a) again a (values_or_missing a values) rows p.1))

-- ---- the walk over the words

module _ (c : List Rule) (again : Bool) where
  settle_ok : (h : Held) → settle_fault c again h ≡ [] → settle_passes c again h ≡ true
  settle_ok h e = by_pending h.pending e
    where
      by_rule : (p : Text × List Text) (found : Option Rule) →
          option_map_or (λ a. use_fault again a p.1 h.rows) found [] ≡ [] →
          option_map_or (λ a. use_passes again a p.1 h.rows) found true ≡ true
      by_rule p None e = refl
      by_rule p (Some a) e = use_ok again a p.1 h.rows e

      by_pending : (pending : Option (Text × List Text)) →
          option_map_or (λ p. option_map_or (λ a. use_fault again a p.1 h.rows) (arg_by_id c p.0)
          []) pending [] ≡ [] →
          option_map_or (λ p. option_map_or (λ a. use_passes again a p.1 h.rows) (arg_by_id c p.0)
          true) pending true ≡ true
      by_pending None e = refl
      by_pending (Some p) e = by_rule p (arg_by_id c p.0) e

  react_ok : (a : Rule) (values : List Text) (h : Held) → react_fault c again a values h ≡ [] →
      react_passes c again a values h ≡ true
  react_ok a values h e =
      let p = split _ _ e in
      all _ _ (settle_ok h p.0) (use_ok again a values (settled c h).rows p.1)

  option_ok : (a : Rule) (v : Option Text) (h : Held) → option_fault c again a v h ≡ [] →
      option_passes c again a v h ≡ true
  option_ok a (Some v) h e = react_ok a (v ∷ []) h e
  option_ok a None h e = settle_ok h e

  long_ok : (found : Option Rule) (v : Option Text) (h : Held) → long_fault c again found v h ≡ [] →
      long_passes c again found v h ≡ true
  long_ok None v h e = cc
  long_ok (Some a) v h e = by (takes_values a) v e
    where
      by : (t : Bool) (v : Option Text) → (if t then option_fault c again a v h
          else (if is_some v then kind.TooManyValues ∷ [] else react_fault c again a [] h)) ≡ [] →
          (if t then option_passes c again a v h
          else (not (is_some v) && react_passes c again a [] h)) ≡ true
      by true v e = option_ok a v h e
      by false (Some x) e = cc
      by false None e = react_ok a [] h e

  short_ok : (found : Option Rule) (rest : Text) (h : Held) (faults : Held → Kinds)
      (passes : Held → Bool) → ((g : Held) → faults g ≡ [] → passes g ≡ true) →
      short_fault c again found rest h faults ≡ [] → short_passes c again found rest h passes ≡ true
  short_ok None rest h faults passes further e = cc
  short_ok (Some a) rest h faults passes further e = by (takes_values a) e
    where
      by : (t : Bool) → (if t then option_fault c again a (attached_value rest) h
          else or_else (react_fault c again a [] h) (faults (reacted c a [] h))) ≡ [] →
          (if t then option_passes c again a (attached_value rest) h
          else (react_passes c again a [] h && passes (reacted c a [] h))) ≡ true
      by true e = option_ok a (attached_value rest) h e
      by false e =
          let p = split _ _ e in
          all _ _ (react_ok a [] h p.0) (further (reacted c a [] h) p.1)

  bundle_step_ok : (found : Option ℕ) (flags : Text) (skip : ℕ) (h : Held)
      (faults : Text → ℕ → Held → Kinds) (passes : Text → ℕ → Held → Bool) →
      ((t : Text) (n : ℕ) (g : Held) → faults t n g ≡ [] → passes t n g ≡ true) →
      bundle_step_fault c again found flags skip h faults ≡ [] →
      bundle_step_passes c again found flags skip h passes ≡ true
  bundle_step_ok None flags skip h faults passes further e = refl
  bundle_step_ok (Some x) flags zero h faults passes further e =
      short_ok (arg_by_short c x) (drop (length (encode_utf8 x)) flags) h
      (faults (drop (length (encode_utf8 x)) flags) 0)
      (passes (drop (length (encode_utf8 x)) flags) 0)
      (further (drop (length (encode_utf8 x)) flags) 0) e
  bundle_step_ok (Some x) flags (suc skip) h faults passes further e =
      further (drop (length (encode_utf8 x)) flags) skip h e

  flags_ok : (k : ℕ) (flags : Text) (skip : ℕ) (h : Held) →
      flags_fault c again k flags skip h ≡ [] → flags_pass c again k flags skip h ≡ true
  unfolding flags_fault flags_pass
  flags_ok zero flags skip h e = refl
  flags_ok (suc k) flags skip h e =
      bundle_step_ok (slice_get (chars flags) 0) flags skip h (flags_fault c again k)
      (flags_pass c again k) (flags_ok k) e

  flag_word_ok : (found : Option (Text × Option Text)) (word : Text) (h : Held) →
      flag_word_fault c again found word h ≡ [] → flag_word_passes c again found word h ≡ true
  flag_word_ok (Some p) word h e = long_ok (arg_by_long c p.0) p.1 h e
  flag_word_ok None word h e = by (short_of word) e
    where
      by : (found : Option Text) →
          option_map_or (λ flags. Faults.bundle_fault c again flags h) found [] ≡ [] →
          option_map_or (λ flags. bundle_passes c again flags h) found true ≡ true
      by None e = refl
      by (Some flags) e = flags_ok (length flags) flags h.skip (record h { skip = 0 }) e

  positional_ok : (a : Rule) (h : Held) → positional_fault c again a h ≡ [] →
      positional_passes c again a h ≡ true
  positional_ok a h e = by (is_pending a h.pending && takes_several a) e
    where
      by : (t : Bool) → (if t then [] else settle_fault c again h) ≡ [] →
          (t || settle_passes c again h) ≡ true
      by true e = refl
      by false e = settle_ok h e

module _ (s : Shape) where
  other_ok : (found : Option Text) (word : Text) (h : Held) → other_fault s found word h ≡ [] →
      other_passes s found word h ≡ true
  other_ok (Some name) word h e =
      fault_if_not (bytes_eq name (codes "help")) s.disable_help_subcommand _ _ e
  other_ok None word h e = by (bytes_eq word (45 ∷ 45 ∷ [])) e
    where
      by : (t : Bool) →
          (if t then []
          else flag_word_fault s.rules s.args_override_self (long_of word) word h) ≡ [] →
          (t || flag_word_passes s.rules s.args_override_self (long_of word) word h) ≡ true
      by true e = refl
      by false e = flag_word_ok s.rules s.args_override_self (long_of word) word h e

  word_ok : (names : Names) (is_trailing : Bool) (waiting : Waiting) (word : Text) (h : Held) →
      word_fault s names is_trailing waiting word h ≡ [] →
      word_passes s names is_trailing waiting word h ≡ true
  word_ok names true waiting word h e = refl
  word_ok names false waiting word h e = other_ok (subcommand_met names waiting word) word h e

  step_ok : (position : ℕ) (h : Held) (step : Step) → step_fault s position h step ≡ [] →
      step_passes s position h step ≡ true
  step_ok position h (next waiting) e = refl
  step_ok position h (trailing p) e = refl
  step_ok position h (subcommand name) e = refl
  step_ok position h value e = by (arg_by_index s.rules position) e
    where
      no_stray : (leaf : Bool) → (if leaf then kind.UnknownArgument ∷ []
          else kind.UnknownArgument ∷ kind.InvalidSubcommand ∷ []) ≡ [] → false ≡ true
      no_stray true e = cc
      no_stray false e = cc

      by : (found : Option Rule) →
          option_map_or (λ a. positional_fault s.rules s.args_override_self a h) found
          (stray_fault s) ≡ [] →
          option_map_or (λ a. positional_passes s.rules s.args_override_self a h) found false ≡ true
      by None e = no_stray s.is_leaf e
      by (Some a) e = positional_ok s.rules s.args_override_self a h e

  turn_ok : (names : Names) (w : Walk) (word : Text) → turn_fault s names w word ≡ [] →
      turn_passes s names w word ≡ true
  turn_ok names w word e = by (is_some w.stopped) e
    where
      met : Held × Step
      met = word_met s.rules names w.is_trailing w.waiting w.position word w.held

      by : (t : Bool) → (if t then []
          else or_else (word_fault s names w.is_trailing w.waiting word w.held)
          (step_fault s w.position (word_met s.rules names w.is_trailing w.waiting w.position word
          w.held).0 (word_met s.rules names w.is_trailing w.waiting w.position word w.held).1)) ≡ []
          → (t || (word_passes s names w.is_trailing w.waiting word w.held
          && step_passes s w.position (word_met s.rules names w.is_trailing w.waiting w.position
          word w.held).0 (word_met s.rules names w.is_trailing w.waiting w.position word w.held).1))
          ≡ true
      by true e = refl
      by false e =
          let p = split _ _ e in
          all _ _ (word_ok names w.is_trailing w.waiting word w.held p.0)
          (step_ok w.position
          (word_met s.rules names w.is_trailing w.waiting w.position word w.held).0
          (word_met s.rules names w.is_trailing w.waiting w.position word w.held).1 p.1)

  walk_ok : (names : Names) (w : Walk) (words : List Text) → walk_fault s names w words ≡ [] →
      walk_passes s names w words ≡ true
  unfolding walk_fault walk_passes
  walk_ok names w [] e = refl
  walk_ok names w (word ∷ words) e =
      let p = split _ _ e in
      all _ _ (turn_ok names w word p.0) (walk_ok names (walked s.rules names w word) words p.1)

-- ---- a command whose defaults pass, and that asks for no option

module _ (s : Shape) (defaults : list_all default_passes s.rules ≡ true)
    (asks_none : (rows : List Row) → is_valid s rows false ≡ true) (words : List Text) where
  level_ok : level_fault s [] nothing_held words false [] ≡ [] →
      level_passes s [] nothing_held words false ≡ true
  level_ok e =
      let p = split (walk_fault s [] (walk_from nothing_held) words) _ e in
      let q = split (settle_fault s.rules s.args_override_self
      (walk s.rules [] nothing_held words).held) _ p.1 in
      all _ _ (walk_ok s [] (walk_from nothing_held) words p.0)
      (all _ _
      (settle_ok s.rules s.args_override_self (walk s.rules [] nothing_held words).held q.0)
      (all _ _ defaults
      (asks_none (finished s.rules (walk s.rules [] nothing_held words).held))))

  abbrev leaf : App
  leaf = record { top = s; subs = [] }

  leaf_ok : built_fault leaf nothing_held words ≡ [] → built_takes leaf nothing_held words ≡ true
  leaf_ok e =
      leaf_takes leaf nothing_held words refl (by (walk s.rules [] nothing_held words).stopped e)
    where
      by : (stop : Option (Text × List Text)) →
          level_fault s [] nothing_held words (is_some (entered leaf stop))
          (entered_fault leaf stop) ≡ [] → level_passes s [] nothing_held words false ≡ true
      by None e = level_ok e
      by (Some p) e = level_ok e

-- what clap makes of the command has no subcommand
pub taken : (a : App) (s : Shape) → built a ≡ record { top = s; subs = [] } → is_simple a ≡ true →
    list_all default_passes s.rules ≡ true → ((rows : List Row) → is_valid s rows false ≡ true) →
    (words : List Text) → fault_of a words ≡ [] → takes a words ≡ true
taken a s is simple defaults asks_none words e =
    all _ _ simple
    (ap (λ (b : App). built_takes b nothing_held (argument_words a words)) is
    ∙ leaf_ok s defaults asks_none (argument_words a words)
    (sym (ap (λ (b : App). built_fault b nothing_held (argument_words a words)) is) ∙ e))
