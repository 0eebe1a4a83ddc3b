-- A text read line by line has the first fault of the text, or gives its schedule.
use Rattle.std.proofs.Common.{◌≡◌, ◌≤◌, ℕ, suc, ◌+◌, ◌-◌, ◌<◌, Bool, true, false, not, ◌&&◌, ◌||◌, eqb, cond, List, [], ◌∷◌, ◌++◌, length, map, filter, refl, ap, sym, ◌∙◌, subst, arith, bytes_eq, codes, Option, Some, None, append_assoc}
use Rattle.std.specs.Prelude.{if◌then◌else◌, ◌==◌, Result, Ok, Err, option_map}
use Rattle.std.specs.List.{All}
use Rattle.std.proofs.lemmas.List.{append-nil}
use Rattle.surface_model.specs.Schedules.{CondLine, MergeLine, ReadLine, Schedule}
use Rattle.surface_model.specs.Text.{TextLine, LineFault, BadLine, Fault, field, begins, is_empty, is_foreign, is_rounds, is_skipped, fields_of, is_in_place, line_fault, with_numbers, some_count, judged, and_before, first_of, fault_from, text_fault, patch_names}
use Rattle.surface_model.specs.Parse.{number_at, of_kind, observable_order, patch_line, init_line, merge_line, read_line, cond_line, line_at, schedule_of}
use Rattle.schedule_reader.specs.declared.known.Place.{Place}
use Rattle.schedule_reader.specs.declared.known.Place.TheVariants.{Version, Distance as AtDistance, Weights as AtWeights, Body}
use Rattle.schedule_reader.specs.declared.fault.ReadError.{ReadError}
use Rattle.schedule_reader.specs.declared.fault.ReadError.TheVariants.{Fault as ReportedFault, Memory}
use Rattle.schedule_reader.specs.Faults.{is_reported, reported}
use Rattle.schedule_reader.specs.Known.{Tables, no_tables, with_line, names_in, rank_of, fault_in, fault_after_first, schedule_in}
use Rattle.schedule_reader.specs.Pieces.{upto, past, lines_of, others}
use Rattle.schedule_reader.specs.Walks.{text_line, fault_at, is_bad_line, judged_in, and_taken, or_fault, walk, is_whole}
use Rattle.schedule_reader.proofs.Numbers.{and_left, and_right}
use Rattle.std.proofs.lemmas.Bool.{eqb-true}
use Rattle.schedule_reader.proofs.Pieces.{first_line, first_line_is, past_shorter}
use Rattle.schedule_reader.proofs.ByKind.{none_if, not_not, clean}
use Rattle.schedule_reader.proofs.Earlier.{after, from, from_push, listed, place_in, fault_same, apart}
use Rattle.surface_model.specs.Accepted.{IsInRange}
use Rattle.schedule_reader.specs.Accepted.{IsRead, HasWeights, EndsInRounds, NamesObservables}
use Rattle.schedule_reader.proofs.Counted.{observables_counted}
use Rattle.schedule_reader.proofs.Placed.{IsPlaced, placed_push, rounds_counts, rounds_place}
use Rattle.schedule_reader.proofs.Kept.{Fits, fits, fits_first, IsKept, kept_push}
use Rattle.schedule_reader.proofs.Agreed.{Agrees, agrees_push}

-- ---- the fixed lines

pub record Fixed (e : List TextLine) : Type 0 where
  pub distance : (after e).distance ≡ number_at (line_at e 1) 1
  pub space : (after e).space ≡ number_at (line_at e 2) 1
  pub time : (after e).time ≡ number_at (line_at e 2) 2

abbrev stays : TextLine → Bool → ℕ → ℕ → ℕ
stays l b k n = if b then number_at l k else n

fixed_push : (e : List TextLine) (l : TextLine) (fo : Bool) → Fixed e → is_in_place (length e) fo l
    ≡ true → Fixed (e ++ l ∷ [])
fixed_push [] l fo f h =
    let s = and_left (begins (codes "swiper") l) (length l.fields == 2) (and_left
    (begins (codes "swiper") l && length l.fields == 2) (bytes_eq (field l 1) (codes "1")) h) in
    let d = apart (codes "swiper") (codes "distance") l refl s in
    let w = apart (codes "swiper") (codes "weights") l refl s in
    record {
      distance = ap (λ b. stays l b 1 0) d;
      space = ap (λ b. stays l b 1 0) w;
      time = ap (λ b. stays l b 2 0) w;
    }
fixed_push (a ∷ []) l fo f h =
    let w = apart (codes "distance") (codes "weights") l refl h in
    record {
      distance = ap (λ b. stays l b 1 (after (a ∷ [])).distance) h;
      space = ap (λ b. stays l b 1 (after (a ∷ [])).space) w ∙ f.space;
      time = ap (λ b. stays l b 2 (after (a ∷ [])).time) w ∙ f.time;
    }
fixed_push (a ∷ b ∷ []) l fo f h =
    let d = apart (codes "weights") (codes "distance") l refl h in
    record {
      distance = ap (λ x. stays l x 1 (after (a ∷ b ∷ [])).distance) d ∙ f.distance;
      space = ap (λ x. stays l x 1 (after (a ∷ b ∷ [])).space) h;
      time = ap (λ x. stays l x 2 (after (a ∷ b ∷ [])).time) h;
    }
fixed_push (a ∷ b ∷ c ∷ r) l fo f h =
    let e = a ∷ b ∷ c ∷ r in
    let both = and_left (not (begins (codes "distance") l) && not (begins (codes "weights") l))
    (not (begins (codes "rounds") l && fo)) h in
    let d = none (begins (codes "distance") l) (and_left (not (begins (codes "distance") l))
    (not (begins (codes "weights") l)) both) in
    let w = none (begins (codes "weights") l) (and_right (not (begins (codes "distance") l))
    (not (begins (codes "weights") l)) both) in
    record {
      distance = ap (λ (t : Tables). t.distance) (from_push no_tables (a ∷ b ∷ c ∷ r) l)
          ∙ ap (λ x. stays l x 1 (after (a ∷ b ∷ c ∷ r)).distance) d ∙ f.distance;
      space = ap (λ (t : Tables). t.space) (from_push no_tables (a ∷ b ∷ c ∷ r) l)
          ∙ ap (λ x. stays l x 1 (after (a ∷ b ∷ c ∷ r)).space) w ∙ f.space;
      time = ap (λ (t : Tables). t.time) (from_push no_tables (a ∷ b ∷ c ∷ r) l)
          ∙ ap (λ x. stays l x 2 (after (a ∷ b ∷ c ∷ r)).time) w ∙ f.time;
    }
  where
    none : (b : Bool) → not b ≡ true → b ≡ false
    none true h = absurd (cc)
    none false h = refl

-- ---- the last line, and the patches

last_from : (t : Tables) (l : TextLine) (ls : List TextLine) → (from t (l ∷ ls)).last_line
    ≡ (line_at (l ∷ ls) (length (l ∷ ls) - 1)).number
last_from t l [] = refl
last_from t l (k ∷ ks) = last_from (with_line t l) k ks
    ∙ ap (λ n. (line_at (l ∷ k ∷ ks) n).number) step
  where
    step : suc (length (k ∷ ks) - 1) ≡ length (l ∷ k ∷ ks) - 1
    step = omega arith

last_is : (e : List TextLine) → (after e).last_line ≡ (line_at e (length e - 1)).number
last_is [] = refl
last_is (l ∷ ls) = last_from no_tables l ls

patches_are : (e : List TextLine) → (after e).patches ≡ map patch_line (of_kind (codes "patch") e)
patches_are e = listed (λ (t : Tables). t.patches) (codes "patch") patch_line (λ t l. refl)
    no_tables e

-- ---- the schedule of lines

abbrev schedule_from : List TextLine → Schedule
schedule_from lines = record {
  distance = number_at (line_at lines 1) 1;
  space = number_at (line_at lines 2) 1;
  time = number_at (line_at lines 2) 2;
  patches = map patch_line (of_kind (codes "patch") lines);
  inits = map (init_line (patch_names lines)) (of_kind (codes "init") lines);
  merges = map (merge_line (patch_names lines)) (of_kind (codes "merge") lines);
  reads = map (read_line (patch_names lines)) (of_kind (codes "read") lines);
  conds =
      map (cond_line (patch_names lines) (observable_order lines)) (of_kind (codes "cond") lines);
  rounds_line = (line_at lines (length lines - 1)).number;
}

pub record IsGood (e : List TextLine) : Type 0 where
  pub agrees : Agrees e
  pub fixed : Fixed e
  pub kept : IsKept (after e)
  pub placed : IsPlaced (after e).place (after e).distance (after e).space (after e).time

good_schedule : (e : List TextLine) → IsGood e → schedule_in (after e) ≡ schedule_from e
good_schedule e g =
    let names = append-nil (patch_names e) in
    let order = append-nil (observable_order e) in
    let patches = patches_are e in
    let inits = sym (g.agrees.inits [])
    ∙ ap (λ ns. map (init_line ns) (of_kind (codes "init") e)) names in
    let merges = sym (g.agrees.merges [])
    ∙ ap (λ ns. map (merge_line ns) (of_kind (codes "merge") e)) names in
    let reads = sym (g.agrees.reads [])
    ∙ ap (λ ns. map (read_line ns) (of_kind (codes "read") e)) names in
    let conds = sym (g.agrees.conds [] [])
    ∙ ap (λ ns. map (cond_line ns (observable_order e ++ [])) (of_kind (codes "cond") e)) names
    ∙ ap (λ os. map (cond_line (patch_names e) os) (of_kind (codes "cond") e)) order in
    let last = last_is e in
    λ i. record {
      distance = g.fixed.distance i;
      space = g.fixed.space i;
      time = g.fixed.time i;
      patches = patches i;
      inits = inits i;
      merges = merges i;
      reads = reads i;
      conds = conds i;
      rounds_line = last i;
    }

-- ---- one line

fits_any : (e : List TextLine) (l : TextLine) (fo : Bool) → fault_in (after e) fo l ≡ None →
    Fits (after e) l
fits_any e l fo h =
    at (after e).place (none_if (not (is_in_place (rank_of (after e).place) fo l)) BadLine _ h)
  where
    at : (p : Place) → (not (is_in_place (rank_of p) fo l) ≡ false)
        × ((if rank_of p == 0 then None else fault_after_first (after e) l) ≡ None) →
        Fits (after e) l
    at Version h =
        fits_first (after e) l
        (and_left (begins (codes "swiper") l)
        (length l.fields == 2) (and_left (begins (codes "swiper") l && length l.fields == 2)
        (bytes_eq (field l 1) (codes "1")) (not_not (is_in_place 0 fo l) h.0)))
    at AtDistance h = fits (after e) l (clean (after e) l h.1)
    at AtWeights h = fits (after e) l (clean (after e) l h.1)
    at Body h = fits (after e) l (clean (after e) l h.1)

good_push : (e : List TextLine) (l : TextLine) (fo : Bool) → IsGood e →
    (after e).last_line < l.number → fault_in (after e) fo l ≡ None → IsGood (e ++ l ∷ [])
good_push e l fo g rises h =
    let f = fits_any e l fo h in
    record {
      agrees = agrees_push e l g.agrees f.refers;
      fixed = fixed_push e l fo g.fixed (place_in e fo l
          ∙ not_not (is_in_place (rank_of (after e).place) fo l)
          (none_if (not (is_in_place (rank_of (after e).place) fo l)) BadLine _ h).0);
      kept = subst IsKept (sym (from_push no_tables e l)) (kept_push (after e) l g.kept f rises);
      placed = subst (λ (t : Tables). IsPlaced t.place t.distance t.space t.time)
          (sym (from_push no_tables e l)) (placed_push (after e) l fo h g.placed);
    }

-- a line's number is no part of its faults
place_free : (p : Place) (fo : Bool) (n m : ℕ) (fs : List (List ℕ)) →
    is_in_place (rank_of p) fo (record { number = n; fields = fs })
    ≡ is_in_place (rank_of p) fo (record { number = m; fields = fs })
place_free Version fo n m fs = refl
place_free AtDistance fo n m fs = refl
place_free AtWeights fo n m fs = refl
place_free Body fo n m fs = refl

number_free : (t : Tables) (fo : Bool) (n m : ℕ) (fs : List (List ℕ)) → fault_in t
    fo (record { number = n; fields = fs }) ≡ fault_in t fo (record { number = m; fields = fs })
number_free t fo n m fs = ap (λ b. if not b then Some BadLine else if rank_of t.place == 0 then None
    else fault_after_first t (record { number = n; fields = fs })) (place_free t.place fo n m fs)

good_before : (whole : Bool) (e : List TextLine) (n : ℕ) (rest : List (List ℕ)) (bytes : List ℕ) →
    IsGood e → (after e).last_line < n → judged_in whole (after e) rest bytes ≡ None →
    IsGood (and_before e n bytes)
good_before whole e n rest bytes g rises h =
    by (is_skipped bytes) (none_if (is_bad_line whole rest bytes) BadLine _ h).1
  where
    by : (s : Bool) → (if s then None else fault_in (after e) (others rest) (text_line 0 bytes))
        ≡ None → IsGood (if s then e else e ++ text_line n bytes ∷ [])
    by true h = g
    by false h = good_push e (text_line n bytes) (others rest) g rises
        (number_free (after e) (others rest) n 0 (fields_of bytes) ∙ h)

-- the lines so far stand before the next
rises_before : (e : List TextLine) (n : ℕ) (bytes : List ℕ) → (after e).last_line < n →
    (after (and_before e n bytes)).last_line < n + 1
rises_before e n bytes h = by (is_skipped bytes)
  where
    by : (s : Bool) → (after (if s then e else e ++ text_line n bytes ∷ [])).last_line < n + 1
    by true = omega (arith, h)
    by false =
        omega (arith, ap (λ (t : Tables). t.last_line) (from_push no_tables e (text_line n bytes)))

taken_before : (e : List TextLine) (n : ℕ) (bytes : List ℕ) → and_taken (after e) n bytes
    ≡ after (and_before e n bytes)
taken_before e n bytes = by (is_skipped bytes)
  where
    by : (s : Bool) → (if s then after e else with_line (after e) (text_line n bytes))
        ≡ after (if s then e else e ++ text_line n bytes ∷ [])
    by true = refl
    by false = sym (from_push no_tables e (text_line n bytes))

numbers_empty : (m : ℕ) (rest : List (List ℕ)) → is_empty (with_numbers m rest) ≡ is_empty rest
numbers_empty m [] = refl
numbers_empty m (b ∷ rest) = refl

numbers_count : (m : ℕ) (rest : List (List ℕ)) → some_count (with_numbers m rest) ≡ others rest
numbers_count m [] = refl
numbers_count m (b ∷ rest) = ap (λ x. not (is_skipped b) || x) (numbers_count (m + 1) rest)

judged_same : (whole : Bool) (e : List TextLine) (m n : ℕ) (rest : List (List ℕ)) (bytes : List ℕ) →
    judged whole e (with_numbers m rest) n bytes ≡ judged_in whole (after e) rest bytes
judged_same whole e m n rest bytes =
    ap (λ b. if is_foreign bytes || (b && not (whole && is_rounds bytes)) then Some BadLine
    else if is_skipped bytes then None else line_fault e (some_count (with_numbers m rest))
    (text_line n bytes)) (numbers_empty m rest)
    ∙ ap (λ x. if is_bad_line whole rest bytes then Some BadLine else if is_skipped bytes
    then None else x) (ap (λ fo. line_fault e fo (text_line n bytes)) (numbers_count m rest)
    ∙ fault_same e (others rest) (text_line n bytes)
    ∙ number_free (after e) (others rest) n 0 (fields_of bytes))

-- ---- all lines

abbrev numbered : ℕ → List (List ℕ) → List TextLine
numbered n ls = map (λ (p : ℕ × List ℕ). record { number = p.0; fields = fields_of p.1 })
    (filter (λ p. not (is_skipped p.1)) (with_numbers n ls))

numbered_before : (e : List TextLine) (n : ℕ) (bytes : List ℕ) (rest : List (List ℕ)) →
    and_before e n bytes ++ numbered (n + 1) rest ≡ e ++ numbered n (bytes ∷ rest)
numbered_before e n bytes rest = by (is_skipped bytes)
  where
    by : (s : Bool) → (if s then e else e ++ text_line n bytes ∷ []) ++ numbered (n + 1) rest
        ≡ e ++ map (λ (p : ℕ × List ℕ). record { number = p.0; fields = fields_of p.1 }) (cond
        (not s) ((n, bytes) ∷ filter (λ p. not (is_skipped p.1)) (with_numbers (n + 1) rest))
        (filter (λ p. not (is_skipped p.1)) (with_numbers (n + 1) rest)))
    by true = refl
    by false = append_assoc e (text_line n bytes ∷ []) (numbered (n + 1) rest)

pub record IsDone (whole : Bool) (e : List TextLine) (n : ℕ) (ls : List (List ℕ))
    (t : Tables) : Type 0 where
  pub good : IsGood (e ++ numbered n ls)
  pub gives : t ≡ after (e ++ numbered n ls)
  pub faultless : fault_from whole e (with_numbers n ls) ≡ None

abbrev Outcome : Bool → List TextLine → ℕ → List (List ℕ) → Result Tables Fault → Type 0
Outcome whole e n ls (Ok t) = IsDone whole e n ls t
Outcome whole e n ls (Err f) = fault_from whole e (with_numbers n ls) ≡ Some f

walked : (whole : Bool) (e : List TextLine) (n : ℕ) (ls : List (List ℕ)) → IsGood e →
    (after e).last_line < n → Outcome whole e n ls (walk whole (after e) n ls)
walked whole e n [] g rises = record {
  good = subst IsGood (sym (append-nil e)) g;
  gives = ap after (sym (append-nil e));
  faultless = refl;
}
walked whole e n (bytes ∷ rest) g rises =
    by (judged_in whole (after e) rest bytes) refl (λ h. walked whole (and_before e n bytes) (n + 1)
    rest (good_before whole e n rest bytes g rises h) (rises_before e n bytes rises))
  where
    lift : judged_in whole (after e) rest bytes ≡ None → (r : Result Tables Fault) →
        Outcome whole (and_before e n bytes) (n + 1) rest r → Outcome whole e n (bytes ∷ rest) r
    lift q (Ok t) o = record {
      good = subst IsGood (numbered_before e n bytes rest) o.good;
      gives = o.gives ∙ ap after (numbered_before e n bytes rest);
      faultless = ap (λ j. first_of j n (fault_from whole (and_before e n bytes) (with_numbers (n
          + 1) rest))) (judged_same whole e (n + 1) n rest bytes ∙ q) ∙ o.faultless;
    }
    lift q (Err f) o = ap (λ j. first_of j n (fault_from whole (and_before e n bytes)
        (with_numbers (n + 1) rest))) (judged_same whole e (n + 1) n rest bytes ∙ q) ∙ o

    by : (j : Option LineFault) → judged_in whole (after e) rest bytes ≡ j
        → (judged_in whole (after e) rest bytes ≡ None → Outcome whole (and_before e n bytes) (n
        + 1) rest (walk whole (after (and_before e n bytes)) (n + 1) rest))
        → Outcome whole e n (bytes ∷ rest)
        (or_fault j n (walk whole (and_taken (after e) n bytes) (n + 1) rest))
    by (Some k) q more = ap (λ j. first_of j n (fault_from whole (and_before e n bytes)
        (with_numbers (n + 1) rest))) (judged_same whole e (n + 1) n rest bytes ∙ q)
    by None q more =
        subst (λ t. Outcome whole e n (bytes ∷ rest) (walk whole t (n + 1) rest)) (sym (taken_before
        e n bytes)) (lift q (walk whole (after (and_before e n bytes)) (n + 1) rest) (more q))

none_kept : IsKept no_tables
none_kept = record {
  ranges = record {
    odd = refl;
    least = omega arith;
    greatest = omega arith;
    tiles = λ k d h. absurd (omega arith);
    inits = λ k d h. absurd (omega arith);
    merges = λ k d h. absurd (omega arith);
    reads = λ k d h. absurd (omega arith);
    conds = λ k d h. absurd (omega arith);
    patch_lines = tt;
    merge_lines = tt;
    one_init = tt;
    one_read = tt;
    few = omega arith;
  };
  patches = omega arith;
  patch_lines = λ k d h. absurd (omega arith);
  merge_lines = λ k d h. absurd (omega arith);
  read_lines = λ k d h. absurd (omega arith);
  prepared = λ k d h. absurd (omega arith);
  measured = λ k d h. absurd (omega arith);
  naming = record {
    count = refl;
    some = λ k d h. absurd (omega arith);
    known = λ k d h. absurd (omega arith);
  };
}

none_good : IsGood []
none_good = record {
  agrees = record {
    inits = λ ns. refl;
    merges = λ ns. refl;
    reads = λ ns. refl;
    conds = λ ns os. refl;
  };
  fixed = record { distance = refl; space = refl; time = refl };
  kept = none_kept;
  placed = tt;
}

text_walked : (text : List ℕ) →
    Outcome (is_whole text) [] 1 (lines_of text) (walk (is_whole text) no_tables 1 (lines_of text))
text_walked text = walked (is_whole text) [] 1 (lines_of text) none_good (omega arith)

pub finished : (text : List ℕ) (t : Tables) → walk (is_whole text) no_tables 1 (lines_of text)
    ≡ Ok t → (text_fault text ≡ None) × (schedule_in t ≡ schedule_of text)
finished text t h =
    let o = subst (Outcome (is_whole text) [] 1 (lines_of text)) h (text_walked text) in
    (o.faultless, ap schedule_in o.gives ∙ good_schedule (numbered 1 (lines_of text)) o.good)

pub failed : (text : List ℕ) (f : Fault) → walk (is_whole text) no_tables 1 (lines_of text)
    ≡ Err f → text_fault text ≡ Some f
failed text f h = subst (Outcome (is_whole text) [] 1 (lines_of text)) h (text_walked text)

-- ---- a step of the reading

pub step_taken : (whole : Bool) (t : Tables) (n : ℕ) (rest front back : List ℕ) →
    eqb (length rest) 0 ≡ false → front ≡ upto 10 rest → back ≡ past 10 rest →
    judged_in whole t (lines_of back) front ≡ None
    → walk whole t n (lines_of rest) ≡ walk whole (and_taken t n front) (n + 1) (lines_of back)
step_taken whole t n rest front back some f b h =
    ap (walk whole t n) (first_line_is rest front back some f b)
    ∙ ap (λ j. or_fault j n (walk whole (and_taken t n front) (n + 1) (lines_of back))) h

-- what is reported of a line is reported of the text
pub reported_of_text : (error : ReadError) (whole : Bool) (text : List ℕ) (t : Tables)
    (n : ℕ) (rest front back : List ℕ) → whole ≡ is_whole text → eqb (length rest) 0 ≡ false →
    front ≡ upto 10 rest → back ≡ past 10 rest
    → walk whole t n (lines_of rest) ≡ walk whole no_tables 1 (lines_of text) →
    is_reported error (fault_at n (judged_in whole t (lines_of back) front)) →
    is_reported error (text_fault text)
reported_of_text error whole text t n rest front back w some f b i h =
    by error (judged_in whole t (lines_of back) front) refl h
  where
    here : (k : LineFault) → judged_in whole t (lines_of back) front ≡ Some k →
        text_fault text ≡ Some (record { line = n; kind = k })
    here k q =
        failed text (record { line = n; kind = k })
        (ap (λ b. walk b no_tables 1 (lines_of text)) (sym w)
        ∙ sym i ∙ ap (walk whole t n) (first_line_is rest front back some f b)
        ∙ ap (λ j. or_fault j n (walk whole (and_taken t n front) (n + 1) (lines_of back))) q)

    by : (error : ReadError) (j : Option LineFault) → judged_in whole t (lines_of back) front ≡ j →
        is_reported error (fault_at n j) → is_reported error (text_fault text)
    by Memory j q h = tt
    by (ReportedFault x) None q h = absurd (cc)
    by (ReportedFault x) (Some k) q h = ap (option_map reported) (here k q) ∙ h

-- ---- the end of the reading

pub steps_shorter : (rest back : List ℕ) → eqb (length rest) 0 ≡ false → back ≡ past 10 rest →
    length back < length rest
steps_shorter [] back h b = absurd (cc)
steps_shorter (x ∷ rest) back h b = let k = past_shorter 10 (x ∷ rest) (omega arith) in
    omega (arith, k, ap length b)

-- nothing is left, so the tables are the text's
pub none_left : (whole : Bool) (text rest : List ℕ) (t : Tables) (n : ℕ) →
    eqb (length rest) 0 ≡ true → whole ≡ is_whole text → walk whole t n (lines_of rest)
    ≡ walk whole no_tables 1 (lines_of text)
    → (text_fault text ≡ None) × (schedule_in t ≡ schedule_of text)
none_left whole text [] t n h w i =
    finished text t (ap (λ b. walk b no_tables 1 (lines_of text)) (sym w) ∙ sym i)
none_left whole text (x ∷ rest) t n h w i = absurd (omega (arith, eqb-true (length (x ∷ rest)) 0 h))

-- ---- the end of the text

first_none : (j : Option LineFault) (n : ℕ) (later : Option Fault) → first_of j n later ≡ None →
    (j ≡ None) × (later ≡ None)
first_none None n later h = (refl, h)
first_none (Some k) n later h = absurd (cc)

-- the last line that counts is `rounds`, after all items
pub record Ends (t : Tables) : Type 0 where
  pub place : t.place ≡ Body
  pub last : EndsInRounds (schedule_in t)

ends_push : (t : Tables) (l : TextLine) (fo : Bool) → IsKept t → t.last_line < l.number →
    fault_in t fo l ≡ None → begins (codes "rounds") l ≡ true → Ends (with_line t l)
ends_push t l fo k rises f r = record {
  place = rounds_place t l fo f r;
  last = record {
    merges = none (λ (m : MergeLine). m.line < l.number) t.merges (merge_line (names_in t) l)
        (begins (codes "merge") l) (apart (codes "rounds") (codes "merge") l refl r) (λ j d h.
        omega (arith, k.merge_lines j d h, rises));
    reads = none (λ (m : ReadLine). m.line < l.number) t.reads (read_line (names_in t) l)
        (begins (codes "read") l) (apart (codes "rounds") (codes "read") l refl r) (λ j d h.
        omega (arith, k.read_lines j d h, rises));
  };
}
  where
    none : {X : Type 0} (P : X → Type 0) (xs : List X) (x : X) (b : Bool) → b ≡ false → All P xs →
        All P (if b then xs ++ x ∷ [] else xs)
    none P xs x true e a = absurd (cc)
    none P xs x false e a = a

rounds_end : (whole : Bool) (e : List TextLine) (n : ℕ) (bytes : List ℕ) → IsGood e →
    (after e).last_line < n → judged_in whole (after e) [] bytes ≡ None →
    Ends (after (and_before e n bytes))
rounds_end whole e n bytes g rises h =
    let bad = none_if (is_bad_line whole [] bytes) BadLine _ h in
    let r = and_right whole (is_rounds bytes) (ended (is_foreign bytes) (whole && is_rounds bytes)
    bad.0) in
    let s = rounds_counts bytes r in
    let f = number_free (after e) (others []) n 0 (fields_of bytes)
    ∙ sym (ap (λ x. if x then None else fault_in (after e) (others []) (text_line 0 bytes)) s)
    ∙ bad.1 in
    subst Ends (sym (ap (λ x. after (if x then e else e ++ text_line n bytes ∷ [])) s
    ∙ from_push no_tables e (text_line n bytes))) (ends_push (after e) (text_line n bytes)
    (others []) g.kept rises f r)
  where
    ended : (a b : Bool) → (a || (true && not b)) ≡ false → b ≡ true
    ended true b h = absurd (cc)
    ended false true h = refl
    ended false false h = absurd (cc)

ended : (whole : Bool) (e : List TextLine) (n : ℕ) (bytes : List ℕ) (ls : List (List ℕ)) →
    IsGood e → (after e).last_line < n → fault_from whole e (with_numbers n (bytes ∷ ls)) ≡ None →
    Ends (after (e ++ numbered n (bytes ∷ ls)))
ended whole e n bytes [] g rises h =
    let j = (first_none (judged whole e [] n bytes) n None h).0 in
    subst (λ d. Ends (after d)) (sym (append-nil (and_before e n bytes)) ∙ numbered_before e n bytes
    []) (rounds_end whole e n bytes g rises (sym (judged_same whole e (n + 1) n [] bytes) ∙ j))
ended whole e n bytes (next ∷ ls) g rises h =
    let j = first_none (judged whole e (with_numbers (n + 1) (next ∷ ls)) n bytes) n
    (fault_from whole (and_before e n bytes) (with_numbers (n + 1) (next ∷ ls))) h in
    subst (λ d. Ends (after d)) (numbered_before e n bytes (next ∷ ls))
    (ended whole (and_before e n bytes) (n + 1) next ls (good_before whole
    e n (next ∷ ls) bytes g rises (sym (judged_same whole e (n + 1) n (next ∷ ls) bytes) ∙ j.0))
    (rises_before e n bytes rises) j.1)

ended_text : (text : List ℕ) → 1 ≤ length text → text_fault text ≡ None →
    Ends (after (numbered 1 (lines_of text)))
ended_text [] l h = absurd (omega arith)
ended_text (x ∷ xs) l h =
    let first = first_line (x ∷ xs) (λ e. absurd (cc)) in
    subst (λ ls. Ends (after (numbered 1 ls))) (sym first)
    (ended (is_whole (x ∷ xs)) [] 1 (upto 10 (x ∷ xs)) (lines_of (past 10 (x ∷ xs))) none_good
    (omega arith) (ap (λ ls. fault_from (is_whole (x ∷ xs)) [] (with_numbers 1 ls)) (sym first)
    ∙ h))

-- ---- what a schedule in memory has

pub record Facts (s : Schedule) : Type 0 where
  pub ranges : IsInRange s
  pub weights : HasWeights s
  pub patches : length s.patches ≤ 64
  pub last_line : EndsInRounds s
  pub named : NamesObservables s

schedule_facts : (t : Tables) → IsKept t → Ends t → IsPlaced t.place t.distance t.space t.time →
    Facts (schedule_in t)
schedule_facts t k e p =
    let q = subst (λ x. IsPlaced x t.distance t.space t.time) e.place p in
    let r = k.ranges in
    record {
      ranges = record {
        odd = q.0.0;
        least = q.0.1;
        greatest = q.0.2;
        tiles = r.tiles;
        inits = r.inits;
        merges = r.merges;
        reads = r.reads;
        conds = r.conds;
        patch_lines = r.patch_lines;
        merge_lines = r.merge_lines;
        one_init = r.one_init;
        one_read = r.one_read;
        few = r.few;
      };
      weights = record { space = q.1; time = q.2 };
      patches = k.patches;
      last_line = e.last;
      named = record {
        some = k.naming.some;
        known = subst (λ n. All (λ (c : CondLine). All (λ l. l < n) c.labels) t.conds)
            (k.naming.count ∙ sym (observables_counted (schedule_in t) e.last)) k.naming.known;
      };
    }

pub facts : (s : Schedule) → IsRead s → Facts s
facts s r = by (walk (is_whole r.text) no_tables 1 (lines_of r.text)) (text_walked r.text)
  where
    by : (w : Result Tables Fault) → Outcome (is_whole r.text) [] 1 (lines_of r.text) w → Facts s
    by (Ok t) o =
        subst Facts (good_schedule (numbered 1 (lines_of r.text)) o.good ∙ sym r.given)
        (schedule_facts (after (numbered 1 (lines_of r.text))) o.good.kept
        (ended_text r.text r.least r.faultless) o.good.placed)
    by (Err f) o = absurd (let k = sym r.faultless ∙ o in cc)
