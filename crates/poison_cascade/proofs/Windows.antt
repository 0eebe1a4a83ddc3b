-- The windows of a book, one after another.
use Rattle.std.proofs.Common.{◌≡◌, ℕ, ◌+◌, ◌*◌, ◌<◌, ◌≤◌, ◌&&◌, ◌⊎◌, ⊎_elim, inl, inr, true, false, not, List, [], ◌∷◌, refl, sym, ap, ◌∙◌, subst, map, length, get_or, take, eq-eqb, All, Any, arith, Option, None, Some, sum_by}
use Rattle.std.specs.List.{list_any}
use Rattle.std.proofs.lemmas.Bool.{false≢true, cases_eq, cases_lt, cases_order, ne_eqb}
use Rattle.std.proofs.lemmas.Option.{none-some, same_Some}
use Rattle.std.proofs.lemmas.List.{get_or_default, get_or-take, length-take-le, length-map}
use Rattle.std.proofs.lemmas.List.Elements.{All-map}
use Rattle.std.proofs.Math.ListN.{get_or-eq_default}
use Rattle.std.proofs.Math.Nat.{mul-le-mul_left, mul-le-mul_right}
use Rattle.std.proofs.lemmas.List.Folds.{Any-from_list_any, list_any-from_Any}
use Rattle.std.proofs.lemmas.List.Sums.{sum_by-le, sum_by-cons}
use Rattle.window_model.specs.declared.Origin.{Origin}
use Rattle.window_model.specs.Speculation.{is_guess}
use Rattle.window_model.specs.Gates.{most_windows}
use Rattle.poison_cascade.proofs.Supports.{Rise}
use Rattle.window_model.specs.declared.Origin.TheVariants.{Guess, Ticket}
use Rattle.poison_cascade.specs.declared.support.Support.{Support}
use Rattle.poison_cascade.specs.Books.{most_retries, most_tickets, TicketBook, WindowEntry, standing, supports_at, supports_in, fresh, IsOrphan, IsUnverified, IsBook}
use Rattle.poison_cascade.specs.Tests.{is_gone, is_gone_from, is_some_ticket, is_comparable, rests_on_gone}

gone_from : (o : Origin) (found : Option ℕ) → is_gone_from o found ≡ true → (k : ℕ) × (o ≡ Ticket k)
    × (found ≡ Some k → ⊥)
gone_from Guess found h = absurd (false≢true h)
gone_from (Ticket k) None h = (k, refl, λ e. none-some k e)
gone_from (Ticket k) (Some j) h =
    (k, refl, λ e. false≢true (sym (ap not (eq-eqb j k (same_Some j k e))) ∙ h))

is_gone_by : (k : ℕ) (found : Option ℕ) → (found ≡ Some k → ⊥) → is_gone_from (Ticket k) found
    ≡ true
is_gone_by k None other = refl
is_gone_by k (Some j) other = ap not (ne_eqb j k (λ e. other (ap Some e)))

-- ---- a window that rests on a ticket which no longer stands

pub orphan_from : (book : TicketBook) (w : ℕ) → rests_on_gone book w ≡ true → IsOrphan book w
orphan_from book w h =
    let a = Any-from_list_any (is_gone book) (supports_at book w) h in
    (a.0, a.1, a.2, a.3, gone_from a.1.origin (standing book a.1.source) a.4)

pub orphan_to : (book : TicketBook) (w : ℕ) → IsOrphan book w → rests_on_gone book w ≡ true
orphan_to book w o =
    let gone : is_gone_from o.1.origin (standing book o.1.source) ≡ true =
    ap (λ origin. is_gone_from origin (standing book o.1.source)) o.4.1
    ∙ is_gone_by o.4.0 (standing book o.1.source) o.4.2 in
    list_any-from_Any (is_gone book) (supports_at book w) (o.0, o.1, o.2, o.3, gone)

pub no_orphan : (book : TicketBook) (w : ℕ) → rests_on_gone book w ≡ false → IsOrphan book w → ⊥
no_orphan book w none o = false≢true (sym none ∙ orphan_to book w o)

-- only windows of the book rest on anything
pub rests_within : (book : TicketBook) (w k : ℕ) → k < length (supports_at book w) →
    w < length book.windows
rests_within book w k small = by_bound (cases_lt w (length book.windows))
  where
    by_bound : (w < length book.windows) ⊎ (length book.windows ≤ w) → w < length book.windows
    by_bound (inl in') = in'
    by_bound (inr out) =
        let none : length (supports_at book w) ≡ 0 =
        ap (λ (e : WindowEntry). length (supports_in e.live))
        (get_or-eq_default book.windows (record { deps = []; live = None; taken = 0 }) out) in
        omega (arith, none, small)

-- ---- a guess that can be compared

comparable_from : (o : Origin) (found : Option ℕ) → is_guess o && is_some_ticket found ≡ true →
    (o ≡ Guess) × (k : ℕ) × (found ≡ Some k)
comparable_from Guess None h = absurd (false≢true h)
comparable_from Guess (Some k) h = (refl, k, refl)
comparable_from (Ticket j) found h = absurd (false≢true h)

comparable_to : (o : Origin) (found : Option ℕ) (k : ℕ) → o ≡ Guess → found ≡ Some k → is_guess o
    && is_some_ticket found ≡ true
comparable_to o found k one two = ap (λ x. is_guess x && is_some_ticket found) one
    ∙ ap is_some_ticket two

-- the first support that passes has the least source
pub least_source : (book : TicketBook) (w : ℕ) (xs : List Support) (i : ℕ) (d : Support) →
    xs ≡ supports_at book w →
    Rise xs → i < length xs → list_any (is_comparable book) (take i xs) ≡ false →
    is_comparable book (get_or xs i d) ≡ true →
    IsUnverified book w (get_or xs i d).source × ((y : ℕ) → y < (get_or xs i d).source →
    IsUnverified book w y → ⊥)
least_source book w xs i d same rise within passed found =
    let here = get_or xs i d in
    let parts = comparable_from here.origin (standing book here.source) found in (
      record {
        guessed = subst (λ ys. Any (λ (s : Support). (s.source ≡ here.source) × (s.origin ≡ Guess))
            ys) same (i, here, within, get_or_default xs i here d within, (refl, parts.0));
        other = parts.1;
        stands = parts.2;
      },
      λ y less u. lesser y less u (subst (λ ys. Any (λ (s : Support). (s.source ≡ y)
          × (s.origin ≡ Guess)) ys) (sym same) u.guessed),
    )
  where
    lesser : (y : ℕ) → y < (get_or xs i d).source → IsUnverified book w y →
        Any (λ (s : Support). (s.source ≡ y) × (s.origin ≡ Guess)) xs → ⊥
    lesser y less u a = by_order (cases_order a.0 i)
      where
        test : is_comparable book a.1 ≡ true
        test = comparable_to a.1.origin (standing book a.1.source) u.other a.4.1
            (ap (standing book) a.4.0 ∙ u.stands)

        by_order : (a.0 ≡ i) ⊎ ((a.0 < i) ⊎ (i < a.0)) → ⊥
        by_order (inl at) =
            let same_ : get_or xs i d ≡ a.1 = ap (λ k. get_or xs k d) (sym at)
            ∙ get_or_default xs a.0 d a.1 a.2 ∙ a.3 in
            let one : (get_or xs i d).source ≡ a.1.source = ap (λ (s : Support). s.source) same_ in
            let two : a.1.source ≡ y = a.4.0 in
            omega (arith, one, two, less)
        by_order (inr (inl before)) =
            let small : a.0 < length (take i xs) =
            omega (arith, before, a.2, within, length-take-le i xs (omega (arith, within))) in
            false≢true (sym passed ∙ list_any-from_Any (is_comparable book) (take i xs) (
              a.0,
              a.1,
              small,
              get_or-take i xs a.0 a.1 before ∙ a.3,
              test,
            ))
        by_order (inr (inr after)) =
            let rises : (get_or xs i a.1).source < (get_or xs a.0 a.1).source =
            rise i a.0 a.1 after a.2 in
            let one : (get_or xs i a.1).source ≡ (get_or xs i d).source =
            ap (λ (s : Support). s.source) (get_or_default xs i a.1 d within) in
            let two : (get_or xs a.0 a.1).source ≡ y = ap (λ (s : Support). s.source) a.3 ∙ a.4.0 in
            omega (arith, rises, one, two, less)

pub unverified_within : (book : TicketBook) (w x : ℕ) → IsUnverified book w x →
    w < length book.windows
unverified_within book w x u = rests_within book w u.guessed.0 u.guessed.2

-- the same of the windows below a number, and of one more
pub one_more : (P : ℕ → Type 0) (n : ℕ) → ((y : ℕ) → y < n → ¬ P y) → ¬ P n → (y : ℕ) → y < n + 1 →
    ¬ P y
one_more P n before here y less h =
    ⊎_elim (λ e. here (subst P e h)) (λ ne. before y (omega (arith, less, ne)) h) (cases_eq y n)

-- ---- how many tickets there may be

pub few_tickets : (book : TicketBook) → IsBook book → book.tickets ≤ most_tickets
few_tickets book is =
    let most = book.retries + 1 in
    let sum : sum_by (λ (e : WindowEntry). e.taken) book.windows ≤ length book.windows * most =
    sum_by-le (λ (e : WindowEntry). e.taken) most book.windows is.each in
    let one : length book.windows * most ≤ most_windows * most = mul-le-mul_right most is.few in
    let two : most_windows * most ≤ most_windows * (most_retries + 1) =
    let small : most ≤ most_retries + 1 = omega (arith, is.bounded) in
    mul-le-mul_left most_windows small in
    omega (arith, sum, one, two, is.counted)

none_taken : (lists : List (List ℕ)) → sum_by (λ (e : WindowEntry). e.taken) (map fresh lists) ≡ 0
none_taken [] = refl
none_taken (deps ∷ lists) =
    let rest = none_taken lists in
    let all = sum_by-cons (λ (e : WindowEntry). e.taken) (fresh deps) (map fresh lists) in
    omega (arith, rest, all)

-- a book in which no ticket is taken yet
pub opened_is : (lists : List (List ℕ)) (windows : List WindowEntry) (retries : ℕ) →
    windows ≡ map fresh lists → length lists ≤ most_windows → retries ≤ most_retries →
    IsBook (record { windows = windows; retries = retries; tickets = 0 })
opened_is lists windows retries are few bounded = record {
  few = let long : length windows ≡ length lists = ap length are ∙ length-map lists fresh in
      omega (arith, few, long);
  bounded = bounded;
  counted = sym (ap (sum_by (λ (e : WindowEntry). e.taken)) are ∙ none_taken lists);
  each = subst (All (λ (e : WindowEntry). e.taken ≤ retries + 1)) (sym are)
      (All-map (λ (e : WindowEntry). e.taken ≤ retries + 1) fresh lists (λ k l. omega (arith)));
}
