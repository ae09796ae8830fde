-- In which line an exchange stands.
use Rattle.std.proofs.Common.{◌≡◌, refl, sym, ap, ◌∙◌, subst, ℕ, Bool, true, false, not, ◌==◌, ◌||◌, cond, find, List, [], ◌∷◌, Some, None, Option}
use Rattle.std.specs.Prelude.{is_some, ⊤}
use Rattle.pp_cache_law.proofs.Numbers.{some_is}
use Rattle.pp_cache_law.specs.Pairs.{AreBoth}
use Rattle.pp_flow.specs.Changes.{Exchanges, entry_of, first_of, is_on, is_place, line_of}
use Rattle.pp_flow.specs.Entries.{is_number}
use Rattle.pp_flow.specs.declared.entry.Entry.{Entry}
use Rattle.pp_flow_law.proofs.Entries.{line_first, none_some}
use Rattle.pp_flow_law.proofs.Standing.{waits_has}
use Rattle.pp_flow_law.specs.Tables.{ShowsFlow, line_at, line_in, none_leaves}
use Rattle.pp_law.specs.Connections.{conn, exchange, is_conn}
use Rattle.pp_law.specs.Lists.{has_number}
use Rattle.pp_law.specs.State.{State, Conn, Exchange}
use Rattle.pp_seats_law.specs.Exchanges.{ShowsExchange}
use Rattle.pp_states_law.proofs.Lines.{AllFound, IsPlaced, in_line, same_itself}
use Rattle.pp_states_law.specs.Exchanges.{StandsNowhere}

-- ---- in one line at most

abbrev pub OnlyOn : ℕ → ℕ → List Conn → Type 0
OnlyOn m n [] = ⊤
OnlyOn m n (k ∷ ks) = (is_conn n k ≡ false → has_number m k.line ≡ false) × OnlyOn m n ks

-- the line of each connection is that of its number
stands_in : (s : State) (m : ℕ) (k : Conn) → conn s k.number ≡ Some k → has_number m k.line ≡ true → has_number m (line_at s k.number) ≡ true
stands_in s m k found has = ap (λ (o : Option Conn). has_number m (line_in o)) found ∙ has

pub only_on : (number : ℕ → ℕ) (f : Exchanges) (s : State) → ShowsFlow number none_leaves f s → (m n : ℕ) → IsPlaced n m s → (ks : List Conn) → AllFound s ks → OnlyOn m n ks
only_on number f s shows m n here [] all = tt
only_on number f s shows m n here (k ∷ ks) all = (by (has_number m k.line) refl, only_on number f s shows m n here ks all.1)
  where
    by : (b : Bool) → has_number m k.line ≡ b → is_conn n k ≡ false → b ≡ false
    by false is off = refl
    by true is off =
        let other : IsPlaced k.number m s = in_line number none_leaves f s shows k.number m (stands_in s m k all.0 is) in
        let same : other.known ≡ here.known = some_is other.known here.known (sym other.there ∙ here.there) in
        let at : k.number ≡ n = some_is k.number n (sym other.place ∙ ap (λ (e : Exchange). e.place) same ∙ here.place) in
        sym (sym off ∙ ap (λ (i : ℕ). i == n) at ∙ same_itself n)

-- one without a place in none
pub nowhere : (number : ℕ → ℕ) (f : Exchanges) (s : State) → ShowsFlow number none_leaves f s → (m : ℕ) (e : Exchange) → exchange s m ≡ Some e → e.place ≡ None → (ks : List Conn) → AllFound s ks → StandsNowhere m ks
nowhere number f s shows m e there none [] all = tt
nowhere number f s shows m e there none (k ∷ ks) all = ((λ goes. by (has_number m k.line) refl), nowhere number f s shows m e there none ks all.1)
  where
    by : (b : Bool) → has_number m k.line ≡ b → b ≡ false
    by false is = refl
    by true is =
        let on : IsPlaced k.number m s = in_line number none_leaves f s shows k.number m (stands_in s m k all.0 is) in
        absurd (none_some k.number (sym none ∙ ap (λ (d : Exchange). d.place) (some_is e on.known (sym there ∙ on.there)) ∙ on.place))

-- ---- one with a place in that line

on_line : (m n : ℕ) (es : List Entry) (y : Entry) → find (is_number m) es ≡ Some y → is_on n y ≡ true → has_number m (line_of n es) ≡ true
on_line m n [] y there on = absurd (none_some y there)
on_line m n (e ∷ es) y there on = ap (λ (ns : List ℕ). has_number m ns) (line_first n e es) ∙ by (is_number m e) (is_on n e) refl refl there (λ found. on_line m n es y found on)
  where
    later : (b : Bool) → has_number m (line_of n es) ≡ true → b || has_number m (line_of n es) ≡ true
    later true has = refl
    later false has = has

    by : (b c : Bool) → is_number m e ≡ b → is_on n e ≡ c → cond b (Some e) (find (is_number m) es) ≡ Some y → (find (is_number m) es ≡ Some y → has_number m (line_of n es) ≡ true)
        → has_number m (cond c (e.exchange.number ∷ line_of n es) (line_of n es)) ≡ true
    by true true is one found rest = ap (λ (b : Bool). b || has_number m (line_of n es)) is
    by true false is one found rest = absurd (let bad : false ≡ true = sym one ∙ ap (λ (x : Entry). is_on n x) (some_is e y found) ∙ on in cc)
    by false true is one found rest = later (e.exchange.number == m) (rest found)
    by false false is one found rest = rest found

pub record StandsOn (s : State) (m n : ℕ) : Type 0 where
  pub k : Conn
  pub there : conn s n ≡ Some k
  pub has : has_number m k.line ≡ true

pub stands_on : (number : ℕ → ℕ) (f : Exchanges) (s : State) → ShowsFlow number none_leaves f s → (m n : ℕ) (e : Exchange) → exchange s m ≡ Some e → e.place ≡ Some n → StandsOn s m n
stands_on number f s shows m n e there place = by_conn (conn s n) refl (sym (ap (λ (ns : List ℕ). has_number m ns) (shows.lines n)) ∙ in_entry)
  where
    at_place : (o : Option Entry) → find (is_number m) f.placed ≡ o → AreBoth (ShowsExchange number) o (Some e) → has_number m (line_of n f.placed) ≡ true
    at_place None is both = absurd both
    at_place (Some y) is both = on_line m n f.placed y is (ap (λ (o : Option ℕ). is_place n o) (both.place ∙ place) ∙ same_itself n)

    by_entry : (o : Option Entry) → find (is_number m) f.waiting ≡ o → AreBoth (ShowsExchange number) (first_of o (find (is_number m) f.placed)) (Some e) → has_number m (line_of n f.placed) ≡ true
    by_entry None is both = at_place (find (is_number m) f.placed) refl both
    by_entry (Some w) is both = absurd (let bad : false ≡ true = sym (ap (λ (o : Option ℕ). not (is_some o)) place) ∙ waits_has number none_leaves f s shows m w e is there in cc)

    in_entry : has_number m (line_of n f.placed) ≡ true
    in_entry = by_entry (find (is_number m) f.waiting) refl (both_of (exchange s m) there (shows.each m))
      where
        both_of : (o : Option Exchange) → o ≡ Some e → AreBoth (ShowsExchange number) (entry_of m f) o → AreBoth (ShowsExchange number) (entry_of m f) (Some e)
        both_of o is both = subst (λ (u : Option Exchange). AreBoth (ShowsExchange number) (entry_of m f) u) is both

    by_conn : (o : Option Conn) → conn s n ≡ o → has_number m (line_in o) ≡ true → StandsOn s m n
    by_conn None is has = absurd (let bad : false ≡ true = has in cc)
    by_conn (Some k) is has = record { k = k; there = is; has = has }
