-- The laws: what was asked on a connection is whole asks of its line, one behind the other, and the front of one more; and its line goes where it was dialled to.
use Rattle.std.proofs.Common.{◌≡◌, ◌⊎◌, refl, ℕ, zero, suc, ◌+◌, ◌-◌, ◌<◌, ◌≤◌, Bool, true, false, not, ◌==◌, List, [], ◌∷◌, ◌++◌, find, cond, take, drop, length, min, if◌then◌else◌, Option, Some, None, inl, inr, sym, subst, ap, ◌∙◌, append_assoc, length-append, length-take, le_refl, le_trans, lt_of_le_of_lt, arith}
use Rattle.std.proofs.Math.Nat.{min-le_left}
use Rattle.std.proofs.lemmas.List.{append-nil}
use Rattle.pp_text.specs.Bytes.{is_empty}
use Rattle.pp_world.proofs.LogLemmas.{asked-append}
use Rattle.pp_world.specs.Log.{Log}
use Rattle.pp_world.specs.Streams.{asked as asked_on, asked_in}
use Rattle.pp_world.specs.declared.happening.Happening.{Happening}
use Rattle.pp_world.specs.declared.happening.Happening.TheVariants.{Woke, Waits, Clock, Opened, CanRead, CanWrite, Heard, HungUp, Said, Shut, Dialled, Undialled, Reached, Ended, Broke, Asked, Got, Dropped, NoneYet, Began, Did, Unread, Noted, Rooted, Listed, Listens, Configured, Printed, Stopped}
use Rattle.pp_law.specs.After.{after, changed}
use Rattle.pp_law.specs.Responses.{got}
use Rattle.pp_law.specs.Asking.{ask, ask_body, ask_next, asked_text, asking, body_heard, is_front, is_writing, left_in, left_to_ask, permits_asked}
use Rattle.pp_law.specs.Connections.{conn, exchange, is_conn, is_exchange, is_for, is_outstanding, on_client_of, on_exchange}
use Rattle.pp_law.specs.Lawful.{Lawful}
use Rattle.pp_law.specs.Lists.{Bytes, change, first_some, is_some_with}
use Rattle.pp_law.specs.Permits.{IsPermitted}
use Rattle.pp_law.specs.State.{State, Term, Answer, Client, Conn, Exchange, start}
use Rattle.std.specs.Prelude.{option_and_then, nat_eq}
use Rattle.std.specs.List.{starts_with}
use Rattle.pp_laws.specs.Numbers.{AreDistinct}
use Rattle.pp_laws.specs.Runs.{IsIn, state_after}
use Rattle.pp_laws.proofs.Lists.{Changed, in_change, in_find, one_of, other, rise_change, same}
use Rattle.pp_laws.proofs.Sound.{conn_number, exchange_number}
use Rattle.pp_laws.proofs.Tests.{first_holds, number_same, same_number, second_holds}
use Rattle.pp_laws_asks.specs.Orders.{IsAskedWhole}
use Rattle.pp_laws_asks.proofs.InOrder.{Found, asked_so, found_in, front_of}
use Rattle.pp_laws_pool.proofs.Along.{after_all-append, back_from}
use Rattle.pp_laws_lines.specs.Lines.{AsksAreOneStream, IsFront, IsOneStream, WasToAsk, joined, nothing, of_body, of_text}
use Rattle.pp_laws_lines.specs.Hosts.{ConnectionsWereDialled, LinesGoToTheirHosts, NumbersAreDialledOnce, WasDialled}
use Rattle.pp_laws_lines.proofs.Hosts.{GoesTo, dialled_later, goes_as}
use Rattle.pp_laws_lines.proofs.Lined.{FactsOf, Heads, IsPlain, Lined, facts_of, lined}
use Rattle.pp_laws_lines.proofs.LinedHeads.{got-lined}
use Rattle.pp_laws_lines.proofs.LinedReplies.{end_replies-lined}
use Rattle.pp_laws_lines.proofs.LinedHappenings.{IsQuiet, changed-lined, dialled_new, nobody, paid-lined}
use Rattle.pp_laws_lines.proofs.Once.{Numbered, dialled_in, none_numbered, numbered_more}
use Rattle.pp_laws_lines.proofs.Stands.{AllFresh, IsNextOf, Located, Since, SoFar, Stands, Tells, WholeIn, ask_same, at_its_front, in_back, in_body, in_its_midst, in_text, located, next_still, one_by, settled_all, stands_before, tells_by, tells_still, whole_append, whole_still}

abbrev pub plain : List Term → Log → ℕ → (ℕ → Option ℕ) → Since
plain terms log low fs = record { terms = terms; log = log; low = low; firsts = fs; gone = None; but = None; kept = None }

pub is_plain : (terms : List Term) (log : Log) (low : ℕ) (fs : ℕ → Option ℕ) → IsPlain (plain terms log low fs)
is_plain terms log low fs = record { gone = refl; but = refl; kept = refl }

-- behind a log; and whose response comes on each connection that is answered
pub record Inv (terms : List Term) (log : Log) (fs : ℕ → Option ℕ) (s : State) : Type 0 where
  pub lines : Lined (plain terms log s.top fs) s
  pub silent : (n : ℕ) → s.top < n → asked_on n log ≡ []
  pub dials : Numbered log s.top
  pub one : (n : ℕ) → IsOneStream terms log n (asked_on n log)

once : (n : ℕ) (h : Happening) → asked_on n (h ∷ []) ≡ asked_in n h ++ []
unfolding asked_on
once n h = refl

one_more : (log : Log) (h : Happening) (n : ℕ) → asked_on n (log ++ h ∷ []) ≡ asked_on n log ++ asked_in n h
one_more log h n = asked-append n log (h ∷ []) ∙ ap (λ (xs : Bytes). asked_on n log ++ xs) (once n h ∙ append-nil (asked_in n h))

-- ---- the log grows, and nothing is asked of this connection

front_still : (terms : List Term) (log : Log) (h : Happening) (n : ℕ) (bytes : Bytes) → IsFront terms log n bytes → IsFront terms (log ++ h ∷ []) n bytes
front_still terms log h n bytes (nothing is) = nothing is
front_still terms log h n bytes (of_text e rest w is) = of_text e rest (next_still terms log h n e w) is
front_still terms log h n bytes (of_body e body w is le) = of_body e body (next_still terms log h n e w) is le

one_still : (terms : List Term) (log : Log) (h : Happening) (n : ℕ) → asked_in n h ≡ [] → IsOneStream terms log n (asked_on n log) → IsOneStream terms (log ++ h ∷ []) n (asked_on n (log ++ h ∷ []))
one_still terms log h n none w = record {
  asks = w.asks;
  whole = whole_still terms log h n w.asks w.whole;
  last = w.last;
  front = front_still terms log h n w.last w.front;
  all = one_more log h n ∙ ap (λ (xs : Bytes). asked_on n log ++ xs) none ∙ append-nil (asked_on n log) ∙ w.all;
}

tells_grown : (terms : List Term) (log : Log) (h : Happening) (n : ℕ) (xs : List Exchange) (line : List ℕ) → asked_in n h ≡ [] → Tells terms log n (asked_on n log) xs line → Tells terms (log ++ h ∷ []) n (asked_on n (log ++ h ∷ [])) xs line
tells_grown terms log h n xs line none t =
    subst (λ (bs : Bytes). Tells terms (log ++ h ∷ []) n bs xs line) (sym (one_more log h n ∙ ap (λ (ys : Bytes). asked_on n log ++ ys) none ∙ append-nil (asked_on n log))) (tells_still terms log h n (asked_on n log) xs line t)

-- ---- where nothing is asked

quiet : (n : ℕ) (h : Happening) → IsQuiet h → asked_in n h ≡ []
quiet n (Asked k bytes) is = absurd is
quiet n (Got k bytes) is = absurd is
quiet n (Woke image) is = refl
quiet n (Waits w) is = refl
quiet n (Clock seconds) is = refl
quiet n (Opened m) is = refl
quiet n (CanRead m) is = refl
quiet n (CanWrite m) is = refl
quiet n (Heard c bytes) is = refl
quiet n (HungUp c) is = refl
quiet n (Said c offered bytes) is = refl
quiet n (Shut c) is = refl
quiet n (Dialled m host port) is = refl
quiet n (Undialled host port) is = refl
quiet n (Reached m) is = refl
quiet n (Ended m) is = refl
quiet n (Broke m) is = refl
quiet n (Dropped m) is = refl
quiet n (NoneYet m) is = refl
quiet n (Began op) is = refl
quiet n (Did op ok) is = refl
quiet n (Unread name) is = refl
quiet n (Noted remark) is = refl
quiet n (Rooted folder) is = refl
quiet n (Listed ok) is = refl
quiet n (Listens port ok) is = refl
quiet n (Configured file text) is = refl
quiet n (Printed text) is = refl
quiet n Stopped is = refl

-- with other words on what was asked
restated : (b c : Since) (s : State) → c.low ≤ s.top → c.kept ≡ None → ((k : Conn) → IsIn k s.conns → WasDialled c.log k.number k.host k.port) → ((k : Conn) → IsIn k s.conns → k.is_closing ≡ false → Tells c.terms c.log k.number (asked_on k.number c.log) s.exchanges k.line) → ((k : Conn) (a : Answer) → IsIn k s.conns → k.answer ≡ Some a → Heads (c.firsts k.number) s.exchanges k) → FactsOf b s → FactsOf c s
restated b c s low none dialled streams answers f = record {
  low = low;
  apart = f.apart;
  known = f.known;
  rise = f.rise;
  given = f.given;
  spelled = f.spelled;
  lined = f.lined;
  placed = f.placed;
  hosts = f.hosts;
  dialled = dialled;
  distinct = f.distinct;
  closed = f.closed;
  streams = λ k i isnt on. streams k i isnt;
  answers = λ k a i is on. answers k a i is;
  kept = λ w x is. let both : None ≡ Some w = sym none ∙ is in absurd (cc both);
}

-- of the number that was given last
settled_top : (terms : List Term) (log : Log) (low : ℕ) (fs : ℕ → Option ℕ) (s : State) → Lined (plain terms log low fs) s → Lined (plain terms log s.top fs) s
settled_top terms log low fs s h =
    lined (restated (plain terms log low fs) (plain terms log s.top fs) s (le_refl s.top) refl (facts_of h).dialled (λ k i isnt. (facts_of h).streams k i isnt (λ is. cc is)) (λ k a i is. (facts_of h).answers k a i is (λ x. cc x)) (facts_of h))

-- the log grows by a happening that asks nothing
unasked_still : (terms : List Term) (log : Log) (fs : ℕ → Option ℕ) (h : Happening) (s : State) → ((n : ℕ) → asked_in n h ≡ []) → Inv terms log fs s → (n : ℕ) → s.top < n → asked_on n (log ++ h ∷ []) ≡ []
unasked_still terms log fs h s none inv n above = one_more log h n ∙ ap (λ (xs : Bytes). asked_on n log ++ xs) (none n) ∙ append-nil (asked_on n log) ∙ inv.silent n above

grown : (terms : List Term) (log : Log) (fs : ℕ → Option ℕ) (h : Happening) (s : State) → ((n : ℕ) → asked_in n h ≡ []) → Inv terms log fs s → Lined (plain terms (log ++ h ∷ []) s.top fs) s
grown terms log fs h s none inv =
    let f = facts_of inv.lines in
    lined (restated (plain terms log s.top fs) (plain terms (log ++ h ∷ []) s.top fs) s (le_refl s.top) refl (λ k i. dialled_later log (h ∷ []) (log ++ h ∷ []) k.number k.host k.port refl (f.dialled k i)) (λ k i isnt. tells_grown terms log h k.number s.exchanges k.line (none k.number) (f.streams k i isnt (λ is. cc is))) (λ k a i is. f.answers k a i is (λ x. cc x)) f)

-- a number that is dialled is new
new_by : (s : State) (h : Happening) (n : ℕ) (host : Bytes) (port : ℕ) → h ≡ Dialled n host port → IsPermitted s h → (s.top < n) × (n ≤ (after s h).top)
new_by s h n host port is permitted =
    let w = dialled_new s n host port (subst (λ (x : Happening). IsPermitted s x) is permitted) in
    (w.0, subst (λ (x : Happening). n ≤ (after s x).top) (sym is) (subst (λ m. n ≤ m) (sym w.1) (le_refl n)))

pub quiet_step : (terms : List Term) (log : Log) (fs : ℕ → Option ℕ) (h : Happening) (s : State) → IsQuiet h → IsPermitted s h → Inv terms log fs s → Inv terms (log ++ h ∷ []) fs (after s h)
quiet_step terms log fs h s none permitted inv = record {
  lines = settled_top terms (log ++ h ∷ []) s.top fs (after s h) now;
  silent = λ n above. unasked_still terms log fs h s (λ m. quiet m h none) inv n (lt_of_le_of_lt (facts_of now).low above);
  dials = numbered_more log h s.top (after s h).top (facts_of now).low (λ n host port is. new_by s h n host port is permitted) inv.dials;
  one = λ n. one_still terms log h n (quiet n h none) (inv.one n);
}
  where
    now : Lined (plain terms (log ++ h ∷ []) s.top fs) (after s h)
    now = changed-lined s h none (is_plain terms (log ++ h ∷ []) s.top fs) refl (unasked_still terms log fs h s (λ m. quiet m h none) inv) (log, refl) permitted (grown terms log fs h s (λ m. quiet m h none) inv)

-- what is read of an origin
pub got_grown : (terms : List Term) (log : Log) (fs : ℕ → Option ℕ) (m : ℕ) (bytes : Bytes) (s : State) → Inv terms log fs s → Lined (plain terms (log ++ Got m bytes ∷ []) s.top fs) s
got_grown terms log fs m bytes s inv = grown terms log fs (Got m bytes) s (λ n. refl) inv

pub got_over : (terms : List Term) (log : Log) (fs gs : ℕ → Option ℕ) (m : ℕ) (bytes : Bytes) (s : State) → Inv terms log fs s → Lined (plain terms (log ++ Got m bytes ∷ []) s.top gs) (got (length bytes) m bytes s) → Inv terms (log ++ Got m bytes ∷ []) gs (after s (Got m bytes))
unfolding changed
got_over terms log fs gs m bytes s inv read = record {
  lines = settled_top terms (log ++ Got m bytes ∷ []) s.top gs (after s (Got m bytes)) now;
  silent = λ n above. unasked_still terms log fs (Got m bytes) s (λ x. refl) inv n (lt_of_le_of_lt (facts_of now).low above);
  dials = numbered_more log (Got m bytes) s.top (after s (Got m bytes)).top (facts_of now).low (λ n host port is. absurd (cc is)) inv.dials;
  one = λ n. one_still terms log (Got m bytes) n refl (inv.one n);
}
  where
    now : Lined (plain terms (log ++ Got m bytes ∷ []) s.top gs) (after s (Got m bytes))
    now = paid-lined _ (end_replies-lined _ read)

-- ---- words on lists

drop_front : (xs ys : Bytes) → drop (length xs) (xs ++ ys) ≡ ys
drop_front [] ys = refl
drop_front (x ∷ xs) ys = drop_front xs ys

nothing_in : (xs : Bytes) → length xs ≡ 0 → xs ≡ []
nothing_in [] is = refl
nothing_in (x ∷ xs) is = absurd (omega arith)

find_there : (n : ℕ) (xs : List Exchange) (x : Exchange) → IsIn x xs → x.number ≡ n → (y : Exchange) × (find (is_exchange n) xs ≡ Some y)
find_there n [] x i is = absurd i
find_there n (z ∷ zs) x i is = by (is_exchange n z) refl i (λ j. find_there n zs x j is)
  where
    by : (t : Bool) → is_exchange n z ≡ t → (x ≡ z) ⊎ IsIn x zs → (IsIn x zs → (y : Exchange) × (find (is_exchange n) zs ≡ Some y)) → (y : Exchange) × (cond t (Some z) (find (is_exchange n) zs) ≡ Some y)
    by true hit j rest = (z, refl)
    by false miss (inl eq) rest = let both : true ≡ false = sym (number_same n) ∙ ap (λ m. m == n) (sym is) ∙ ap (λ (y : Exchange). y.number == n) eq ∙ miss in absurd (cc both)
    by false miss (inr j) rest = rest j

-- ---- one ask

few_heard : (s : State) (e : Exchange) → length (body_heard s e) ≤ e.body_left
few_heard s e = by (find (is_for e) s.clients)
  where
    by : (o : Option Client) → length (elim o as (λ c. Bytes) [ None ↦ [] | Some c ↦ take (min e.body_left c.body_left) c.heard ]) ≤ e.body_left
    by None = omega arith
    by (Some c) =
        let one : length (take (min e.body_left c.body_left) c.heard) ≤ min e.body_left c.body_left = subst (λ n. n ≤ min e.body_left c.body_left) (sym (length-take (min e.body_left c.body_left) c.heard)) (min-le_left (min e.body_left c.body_left) (length c.heard)) in
        le_trans one (min-le_left e.body_left c.body_left)

-- what it becomes
abbrev asked_more : Bool → ℕ → ℕ → Exchange → Exchange
asked_more false n now x = asked_text n now x
asked_more true n now x = record x { body_left = x.body_left - n }

module _ (terms : List Term) (log : Log) (m : ℕ) (bytes : Bytes) (k : Conn) (e : Exchange) where
  abbrev s : State
  s = state_after terms log

  abbrev longer : Log
  longer = log ++ Asked m bytes ∷ []

  -- its text is asked, or its body
  record Step : Type 0 where
    number : k.number ≡ m
    there : IsIn k s.conns
    is_open : k.is_closing ≡ false
    found : Found s k.line e
    rest : Bytes
    left : left_to_ask s e ≡ bytes ++ rest
    some : is_empty (left_to_ask s e) ≡ false

  abbrev ys : List Exchange
  ys = change (is_exchange e.number) (asked_more (is_outstanding e) (length bytes) s.clock) s.exchanges

  module _ (st : Step) (fs : ℕ → Option ℕ) (inv : Inv terms log fs (state_after terms log)) where
    facts : FactsOf (plain terms log s.top fs) s
    facts = facts_of inv.lines

    there_e : IsIn e s.exchanges × (e.number ≡ st.found.number)
    there_e = let w = in_find (is_exchange st.found.number) e s.exchanges st.found.there in (w.0, same_number e.number st.found.number w.1)

    parts : k.line ≡ st.found.before ++ e.number ∷ st.found.behind
    parts = st.found.parts ∙ ap (λ n. st.found.before ++ n ∷ st.found.behind) (sym there_e.1)

    only : (d : Exchange) → IsIn d s.exchanges → d.number ≡ e.number → d ≡ e
    only d i is = one_of exchange_number s.exchanges d e facts.rise i there_e.0 is

    -- as long as anything is left to ask
    not_whole : IsAskedWhole e → ⊥
    not_whole full = by (is_outstanding e) refl
      where
        heard_none : body_heard s e ≡ []
        heard_none = nothing_in (body_heard s e) (let le : length (body_heard s e) ≤ e.body_left = few_heard s e in let none : e.body_left ≡ 0 = full.1 in omega arith)

        out : is_outstanding e ≡ true
        out = ap (λ n. n == length e.text) full.0 ∙ number_same (length e.text)

        by : (t : Bool) → is_outstanding e ≡ t → ⊥
        by true is =
            let left : left_to_ask s e ≡ [] = ap (λ (b : Bool). elim b as (λ c. Bytes) [ false ↦ drop e.asked e.text | true ↦ body_heard s e ]) is ∙ heard_none in
            let both : true ≡ false = sym (ap (λ (xs : Bytes). is_empty xs) left) ∙ st.some in cc both
        by false is = let both : true ≡ false = sym out ∙ is in cc both

    full_before : (n : ℕ) → IsIn n st.found.before → WholeIn s.exchanges n
    full_before n l x i is =
        let w = find_there n s.exchanges x i is in
        let y = in_find (is_exchange n) w.0 s.exchanges w.1 in
        let eq : x ≡ w.0 = one_of exchange_number s.exchanges x w.0 facts.rise i y.0 (is ∙ sym (same_number w.0.number n y.1)) in
        subst IsAskedWhole (sym eq) (st.found.whole n w.0 l w.1)

    t : Tells terms log m (asked_on m log) s.exchanges k.line
    t = subst (λ n. Tells terms log n (asked_on n log) s.exchanges k.line) st.number (facts.streams k st.there st.is_open (λ is. cc is))

    where_it_is : Located terms log m s.exchanges e t.last st.found.behind
    where_it_is = located terms log m s.exchanges e t.last st.found.before st.found.behind there_e.0 only not_whole full_before (subst (λ ns. Stands terms log m s.exchanges t.last ns) parts t.stands)

    abbrev f : Exchange → Exchange
    f = asked_more (is_outstanding e) (length bytes) s.clock

    now_there : IsIn (f e) ys
    now_there = at s.exchanges there_e.0
      where
        at : (xs : List Exchange) → IsIn e xs → IsIn (f e) (change (is_exchange e.number) f xs)
        at [] i = absurd i
        at (x ∷ xs) (inl eq) = inl (ap (λ (b : Bool). elim b as (λ c. Exchange) [ true ↦ f e | false ↦ e ]) (sym (number_same e.number)) ∙ ap (λ (y : Exchange). elim (is_exchange e.number y) as (λ c. Exchange) [ true ↦ f y | false ↦ y ]) eq)
        at (x ∷ xs) (inr i) = inr (at xs i)

    -- another one is as it was
    other_was : (x : Exchange) → IsIn x ys → (x.number ≡ e.number → ⊥) → IsIn x s.exchanges
    other_was x i apart = by (in_change (is_exchange e.number) f x s.exchanges i)
      where
        number_kept : (b : Bool) (y : Exchange) → (asked_more b (length bytes) s.clock y).number ≡ y.number
        number_kept true y = refl
        number_kept false y = refl

        by : Changed (is_exchange e.number) f s.exchanges x → IsIn x s.exchanges
        by (same j isnt) = j
        by (other y j hit eq) = absurd (apart (ap exchange_number eq ∙ number_kept (is_outstanding e) y ∙ same_number y.number e.number hit))

    before_apart : (ns : List ℕ) → AreDistinct (ns ++ e.number ∷ st.found.behind) → (n : ℕ) → IsIn n ns → n ≡ e.number → ⊥
    before_apart [] d n i is = absurd i
    before_apart (x ∷ ns) d n (inl eq) is = d.0 (subst (λ y. IsIn y (ns ++ e.number ∷ st.found.behind)) (sym is ∙ eq) (in_back e.number ns (e.number ∷ st.found.behind) (inl refl)))
    before_apart (x ∷ ns) d n (inr i) is = before_apart ns d.1 n i is

    behind_apart : (ns : List ℕ) → AreDistinct (ns ++ e.number ∷ st.found.behind) → (n : ℕ) → IsIn n st.found.behind → n ≡ e.number → ⊥
    behind_apart [] d n i is = d.0 (subst (λ x. IsIn x st.found.behind) is i)
    behind_apart (x ∷ ns) d n i is = behind_apart ns d.1 n i is

    one_of_each : AreDistinct (st.found.before ++ e.number ∷ st.found.behind)
    one_of_each = subst AreDistinct parts (facts.distinct k st.there)

    fresh_behind : AllFresh ys st.found.behind
    fresh_behind n x l i is = where_it_is.fresh_behind n x l (other_was x i (λ same_one. behind_apart st.found.before one_of_each n l (sym is ∙ same_one))) is

    full_now : (n : ℕ) → IsIn n st.found.before → WholeIn ys n
    full_now n l x i is = full_before n l x (other_was x i (λ same_one. before_apart st.found.before one_of_each n l (sym is ∙ same_one))) is

    -- it stands to be asked now
    stood : WasToAsk terms longer m e ⊎ (0 < e.asked)
    stood = by e.asked refl
      where
        by : (n : ℕ) → e.asked ≡ n → WasToAsk terms longer m e ⊎ (0 < e.asked)
        by zero none = inl (record { front = log; behind = Asked m bytes ∷ []; parts = refl; then = record { there = there_e.0; conn = k; conn_there = st.there; numbered = st.number; line = subst (λ ns. IsIn e.number ns) (sym parts) (in_back e.number st.found.before (e.number ∷ st.found.behind) (inl refl)); unasked = none } })
        by (suc n) some = inr (subst (λ x. 0 < x) (sym some) (omega arith))

    outstanding : is_outstanding e ≡ true → left_to_ask s e ≡ body_heard s e
    outstanding is = ap (λ (b : Bool). elim b as (λ c. Bytes) [ false ↦ drop e.asked e.text | true ↦ body_heard s e ]) is

    unfinished : is_outstanding e ≡ false → left_to_ask s e ≡ drop e.asked e.text
    unfinished is = ap (λ (b : Bool). elim b as (λ c. Bytes) [ false ↦ drop e.asked e.text | true ↦ body_heard s e ]) is

    -- with what is asked now
    in_midst : (was : Exchange) (left : Bytes) (o : Bool) → is_outstanding e ≡ o → SoFar was e left → SoFar was (asked_more o (length bytes) s.clock e) (left ++ bytes)
    in_midst was left false is (in_text rest spelled text asked_ stays) =
        in_text st.rest
        (spelled ∙ ap (λ (xs : Bytes). left ++ xs) (sym (drop_front left rest) ∙ ap (λ (xs : Bytes). drop (length left) xs) (sym spelled ∙ sym text) ∙ ap (λ n. drop n e.text) (sym asked_) ∙ sym (unfinished is) ∙ st.left) ∙ sym (append_assoc left bytes st.rest))
        text (ap (λ n. n + length bytes) asked_ ∙ sym (length-append left bytes)) stays
    in_midst was left false is (in_body body spelled text asked_ sum) =
        let out : is_outstanding e ≡ true = ap (λ n. n == length e.text) (asked_ ∙ ap (λ (xs : Bytes). length xs) (sym text)) ∙ number_same (length e.text) in
        let both : true ≡ false = sym out ∙ is in absurd (cc both)
    in_midst was left true is (in_text rest spelled text asked_ stays) = in_body bytes (ap (λ (xs : Bytes). xs ++ bytes) (sym no_rest)) text (same_number e.asked (length e.text) is ∙ ap (λ (xs : Bytes). length xs) text) sum
      where
        out : e.asked ≡ length e.text
        out = same_number e.asked (length e.text) is

        long : length was.text ≡ length left + length rest
        long = ap (λ (xs : Bytes). length xs) spelled ∙ length-append left rest

        same_long : length e.text ≡ length was.text
        same_long = ap (λ (xs : Bytes). length xs) text

        none : rest ≡ []
        none = nothing_in rest (let a : e.asked ≡ length left = asked_ in omega (arith, out, long, same_long))

        no_rest : was.text ≡ left
        no_rest = spelled ∙ ap (λ (xs : Bytes). left ++ xs) none ∙ append-nil left

        fits : length bytes ≤ e.body_left
        fits =
            let all : length (body_heard s e) ≡ length bytes + length st.rest = ap (λ (xs : Bytes). length xs) (sym (outstanding is) ∙ st.left) ∙ length-append bytes st.rest in
            let le : length (body_heard s e) ≤ e.body_left = few_heard s e in omega arith

        sum : length bytes + (e.body_left - length bytes) ≡ was.body_left
        sum = let le : length bytes ≤ e.body_left = fits in let eq : e.body_left ≡ was.body_left = stays in omega arith
    in_midst was left true is (in_body body spelled text asked_ sum) = in_body (body ++ bytes) (ap (λ (xs : Bytes). xs ++ bytes) spelled ∙ append_assoc was.text body bytes) text asked_ total
      where
        fits : length bytes ≤ e.body_left
        fits =
            let all : length (body_heard s e) ≡ length bytes + length st.rest = ap (λ (xs : Bytes). length xs) (sym (outstanding is) ∙ st.left) ∙ length-append bytes st.rest in
            let le : length (body_heard s e) ≤ e.body_left = few_heard s e in omega arith

        total : length (body ++ bytes) + (e.body_left - length bytes) ≡ was.body_left
        total = let le : length bytes ≤ e.body_left = fits in let long : length (body ++ bytes) ≡ length body + length bytes = length-append body bytes in let eq : length body + e.body_left ≡ was.body_left = sum in omega arith

    asked_now : (o : Bool) → 0 < e.asked → 0 < (asked_more o (length bytes) s.clock e).asked
    asked_now true lt = lt
    asked_now false lt = omega arith

    number_now : (o : Bool) → (asked_more o (length bytes) s.clock e).number ≡ e.number
    number_now true = refl
    number_now false = refl

    stands_at : IsNextOf terms log m s.exchanges e where_it_is.settled.left → Stands terms longer m ys (where_it_is.settled.left ++ bytes) (e.number ∷ st.found.behind)
    stands_at (in_its_midst was stood_then so_far begun) = inr (inl (
      record {
        now = f e;
        there = now_there;
        numbered = number_now (is_outstanding e);
        begun = asked_now (is_outstanding e) begun;
        was = was;
        stood = next_still terms log (Asked m bytes) m was stood_then;
        so_far = in_midst was where_it_is.settled.left (is_outstanding e) refl so_far;
      },
      fresh_behind,
    ))
    stands_at (at_its_front none unasked_yet) = by bytes refl
      where
        text_first : is_outstanding e ≡ false
        text_first = at (is_outstanding e) refl
          where
            at : (o : Bool) → is_outstanding e ≡ o → is_outstanding e ≡ false
            at true is = let long : e.asked ≡ length e.text = same_number e.asked (length e.text) is in let lt : 0 < length e.text = facts.spelled e there_e.0 in let bad : ⊥ = omega arith in absurd bad
            at false is = is

        now_asked : (f e).asked ≡ e.asked + length bytes
        now_asked = ap (λ (b : Bool). (asked_more b (length bytes) s.clock e).asked) text_first

        it_is : WasToAsk terms longer m e
        it_is = at stood
          where
            at : WasToAsk terms longer m e ⊎ (0 < e.asked) → WasToAsk terms longer m e
            at (inl w) = w
            at (inr lt) = absurd (omega (arith, lt, unasked_yet))

        start_of : SoFar e e []
        start_of = in_text e.text refl refl unasked_yet refl

        by : (bs : Bytes) → bytes ≡ bs → Stands terms longer m ys (where_it_is.settled.left ++ bytes) (e.number ∷ st.found.behind)
        by [] is = inl (ap (λ (xs : Bytes). xs ++ bytes) none ∙ is, all_fresh)
          where
            all_fresh : AllFresh ys (e.number ∷ st.found.behind)
            all_fresh n x (inr l) i at = fresh_behind n x l i at
            all_fresh n x (inl eq) i at = here (in_change (is_exchange e.number) f x s.exchanges i)
              where
                here : Changed (is_exchange e.number) f s.exchanges x → x.asked ≡ 0
                here (same j isnt) = let both : true ≡ false = sym (number_same e.number) ∙ ap (λ y. y == e.number) (sym eq ∙ sym at) ∙ isnt in absurd (cc both)
                here (other y j hit now) =
                    let it : y ≡ e = only y j (same_number y.number e.number hit) in
                    ap (λ (z : Exchange). z.asked) now ∙ ap (λ (z : Exchange). (f z).asked) it ∙ now_asked ∙ ap (λ (xs : Bytes). e.asked + length xs) is ∙ (let z : e.asked ≡ 0 = unasked_yet in omega arith)
        by (c ∷ bs) is = inr (inl (
          record {
            now = f e;
            there = now_there;
            numbered = number_now (is_outstanding e);
            begun = subst (λ n. 0 < n) (sym now_asked) (let long : length bytes ≡ length bs + 1 = ap (λ (xs : Bytes). length xs) is ∙ suc_is bs in omega arith);
            was = e;
            stood = it_is;
            so_far = subst (λ (xs : Bytes). SoFar e (f e) (xs ++ bytes)) (sym none) (in_midst e [] (is_outstanding e) refl start_of);
          },
          fresh_behind,
        ))
          where
            suc_is : (xs : Bytes) → suc (length xs) ≡ length xs + 1
            suc_is xs = omega arith

    now_tells : Tells terms longer m (asked_on m longer) ys k.line
    now_tells = record {
      asks = t.asks ++ where_it_is.settled.asks;
      are_whole = whole_append terms longer m t.asks where_it_is.settled.asks (whole_still terms log (Asked m bytes) m t.asks t.are_whole) (whole_still terms log (Asked m bytes) m where_it_is.settled.asks where_it_is.settled.are_whole);
      last = where_it_is.settled.left ++ bytes;
      all = one_more log (Asked m bytes) m ∙ ap (λ (xs : Bytes). asked_on m log ++ xs) came ∙ ap (λ (xs : Bytes). xs ++ bytes) (settled_all terms log m (asked_on m log) t.asks t.last where_it_is.settled t.all) ∙ append_assoc (joined (t.asks ++ where_it_is.settled.asks)) where_it_is.settled.left bytes;
      stands = subst (λ ns. Stands terms longer m ys (where_it_is.settled.left ++ bytes) ns) (sym parts) (stands_before terms longer m ys (where_it_is.settled.left ++ bytes) st.found.before (e.number ∷ st.found.behind) full_now (stands_at where_it_is.next));
    }
      where
        came : asked_in m (Asked m bytes) ≡ bytes
        came = ap (λ (b : Bool). if b then bytes else []) (number_same m)

    -- ---- all lines

    kept_ask : (o : Bool) (x : Exchange) → ((asked_more o (length bytes) s.clock x).number ≡ x.number) × ((asked_more o (length bytes) s.clock x).text ≡ x.text) × ((asked_more o (length bytes) s.clock x).place ≡ x.place) × ((asked_more o (length bytes) s.clock x).key ≡ x.key)
    kept_ask true x = (refl, refl, refl, refl)
    kept_ask false x = (refl, refl, refl, refl)

    elsewhere : (n : ℕ) → (n ≡ m → ⊥) → asked_in n (Asked m bytes) ≡ []
    elsewhere n isnt = by (m == n) refl
      where
        by : (b : Bool) → (m == n) ≡ b → (if b then bytes else []) ≡ []
        by true is = absurd (isnt (sym (same_number m n is)))
        by false is = refl

    streams_by : (j : Conn) → IsIn j s.conns → j.is_closing ≡ false → (b : Bool) → (j.number == m) ≡ b → Tells terms longer j.number (asked_on j.number longer) ys j.line
    streams_by j i isnt true is =
        let eq : j ≡ k = one_of conn_number s.conns j k facts.apart i st.there (same_number j.number m is ∙ sym st.number) in
        subst (λ (x : Conn). Tells terms longer x.number (asked_on x.number longer) ys x.line) (sym eq) (subst (λ n. Tells terms longer n (asked_on n longer) ys k.line) (sym st.number) now_tells)
    streams_by j i isnt false is =
        tells_by terms longer j.number (asked_on j.number longer) s.exchanges ys j.line (record { back = λ x l q. (x, other_was x l (away x.number q), ask_same x); forth = λ d l q lt. (d, stays d l (away d.number q), ask_same d) })
        (tells_grown terms log (Asked m bytes) j.number s.exchanges j.line (elsewhere j.number (λ eq. let both : true ≡ false = sym (number_same m) ∙ ap (λ n. n == m) (sym eq) ∙ is in cc both)) (facts.streams j i isnt (λ x. cc x)))
      where
        -- it stands in the line of that connection alone
        away : (n : ℕ) → IsIn n j.line → n ≡ e.number → ⊥
        away n l eq =
            let mine : e.place ≡ Some k.number = facts.placed k e st.there there_e.0 (subst (λ ns. IsIn e.number ns) (sym parts) (in_back e.number st.found.before (e.number ∷ st.found.behind) (inl refl))) in
            let both : Some j.number ≡ Some k.number = sym (facts.placed j e i there_e.0 (subst (λ x. IsIn x j.line) eq l)) ∙ mine in
            let number : j.number ≡ k.number = cc in
            let clash : true ≡ false = sym (number_same m) ∙ ap (λ x. x == m) (sym (number ∙ st.number)) ∙ is in cc clash

        stays : (d : Exchange) → IsIn d s.exchanges → (d.number ≡ e.number → ⊥) → IsIn d ys
        stays d l off = at s.exchanges l
          where
            miss : is_exchange e.number d ≡ false
            miss = by (is_exchange e.number d) refl
              where
                by : (b : Bool) → is_exchange e.number d ≡ b → is_exchange e.number d ≡ false
                by true hit = absurd (off (same_number d.number e.number hit))
                by false unlike = unlike

            at : (xs : List Exchange) → IsIn d xs → IsIn d (change (is_exchange e.number) f xs)
            at [] q = absurd q
            at (x ∷ xs) (inl eq) = inl (ap (λ (b : Bool). elim b as (λ c. Exchange) [ true ↦ f d | false ↦ d ]) (sym miss) ∙ ap (λ (y : Exchange). elim (is_exchange e.number y) as (λ c. Exchange) [ true ↦ f y | false ↦ y ]) eq)
            at (x ∷ xs) (inr q) = inr (at xs q)

    answers_by : (j : Conn) (a : Answer) → IsIn j s.conns → j.answer ≡ Some a → Heads (fs j.number) ys j
    answers_by j a i is = let w = facts.answers j a i is (λ x. cc x) in record { number = w.number; expected = w.expected; first = w.first; out = λ x l at. by w x at (in_change (is_exchange e.number) f x s.exchanges l) }
      where
        still_out : (o : Bool) → is_outstanding e ≡ o → e.asked ≡ length e.text → (asked_more o (length bytes) s.clock e).asked ≡ length (asked_more o (length bytes) s.clock e).text
        still_out true o_is out = out
        still_out false o_is out = let both : true ≡ false = sym (ap (λ n. n == length e.text) out ∙ number_same (length e.text)) ∙ o_is in absurd (cc both)

        by : (w : Heads (fs j.number) s.exchanges j) (x : Exchange) → x.number ≡ w.number → Changed (is_exchange e.number) f s.exchanges x → x.asked ≡ length x.text
        by w x at (same l isnt) = w.out x l at
        by w x at (other y l hit eq) =
            let it : y ≡ e = only y l (same_number y.number e.number hit) in
            let now : x ≡ f e = eq ∙ ap f it in
            let number : e.number ≡ w.number = sym (ap exchange_number now ∙ number_now (is_outstanding e)) ∙ at in
            subst (λ (z : Exchange). z.asked ≡ length z.text) (sym now) (still_out (is_outstanding e) refl (w.out e there_e.0 number))

    asked_facts : FactsOf (plain terms longer s.top fs) (record s { exchanges = ys })
    asked_facts = record {
      low = le_refl s.top;
      apart = facts.apart;
      known = facts.known;
      rise = rise_change exchange_number (is_exchange e.number) f (λ x. (kept_ask (is_outstanding e) x).0) s.exchanges facts.rise;
      given = λ x i. given_by x (in_change (is_exchange e.number) f x s.exchanges i);
      spelled = λ x i. spelled_by x (in_change (is_exchange e.number) f x s.exchanges i);
      lined = facts.lined;
      placed = λ j x i l q. placed_by j x i (in_change (is_exchange e.number) f x s.exchanges l) q;
      hosts = λ j x i l q. hosts_by j x i (in_change (is_exchange e.number) f x s.exchanges l) q;
      dialled = λ j i. dialled_later log (Asked m bytes ∷ []) longer j.number j.host j.port refl (facts.dialled j i);
      distinct = facts.distinct;
      closed = facts.closed;
      streams = λ j i isnt on. streams_by j i isnt (j.number == m) refl;
      answers = λ j a i is on. answers_by j a i is;
      kept = λ w x is. absurd (cc is);
    }
      where
        given_by : (x : Exchange) → Changed (is_exchange e.number) f s.exchanges x → x.number < s.next_exchange
        given_by x (same l isnt) = facts.given x l
        given_by x (other y l hit eq) = subst (λ n. n < s.next_exchange) (sym (ap exchange_number eq ∙ (kept_ask (is_outstanding e) y).0)) (facts.given y l)

        spelled_by : (x : Exchange) → Changed (is_exchange e.number) f s.exchanges x → 0 < length x.text
        spelled_by x (same l isnt) = facts.spelled x l
        spelled_by x (other y l hit eq) = subst (λ (bs : Bytes). 0 < length bs) (sym (ap (λ (z : Exchange). z.text) eq ∙ (kept_ask (is_outstanding e) y).1)) (facts.spelled y l)

        placed_by : (j : Conn) (x : Exchange) → IsIn j s.conns → Changed (is_exchange e.number) f s.exchanges x → IsIn x.number j.line → x.place ≡ Some j.number
        placed_by j x i (same l isnt) q = facts.placed j x i l q
        placed_by j x i (other y l hit eq) q =
            ap (λ (z : Exchange). z.place) eq ∙ (kept_ask (is_outstanding e) y).2 ∙ facts.placed j y i l (subst (λ n. IsIn n j.line) (ap exchange_number eq ∙ (kept_ask (is_outstanding e) y).0) q)

        hosts_by : (j : Conn) (x : Exchange) → IsIn j s.conns → Changed (is_exchange e.number) f s.exchanges x → IsIn x.number j.line → GoesTo x j
        hosts_by j x i (same l isnt) q = facts.hosts j x i l q
        hosts_by j x i (other y l hit eq) q =
            goes_as x y j (ap (λ (z : Exchange). z.key) eq ∙ (kept_ask (is_outstanding e) y).3) (facts.hosts j y i l (subst (λ n. IsIn n j.line) (ap exchange_number eq ∙ (kept_ask (is_outstanding e) y).0) q))

-- ---- the step

opened_by : (terms : List Term) (log : Log) (fs : ℕ → Option ℕ) (k : Conn) (e : Exchange) → Inv terms log fs (state_after terms log) → IsIn k (state_after terms log).conns → Found (state_after terms log) k.line e → k.is_closing ≡ false
opened_by terms log fs k e inv there found = by k.is_closing refl
  where
    never : (ns : List ℕ) (n : ℕ) (ms : List ℕ) → [] ≡ ns ++ n ∷ ms → ⊥
    never [] n ms is = cc is
    never (x ∷ ns) n ms is = cc is

    by : (b : Bool) → k.is_closing ≡ b → k.is_closing ≡ false
    by true is = absurd (never found.before found.number found.behind (sym ((facts_of inv.lines).closed k there is).0 ∙ found.parts))
    by false is = is

not_empty : (b : Bool) → not b ≡ true → b ≡ false
not_empty true is = absurd (cc is)
not_empty false is = refl

record Asks (terms : List Term) (log : Log) (m : ℕ) (bytes : Bytes) : Type 0 where
  conn : Conn
  exchange : Exchange
  asks : asking (state_after terms log) m ≡ Some exchange
  step : Step terms log m bytes conn exchange

asks_of : (terms : List Term) (log : Log) (fs : ℕ → Option ℕ) (m : ℕ) (bytes : Bytes) → permits_asked (state_after terms log) m bytes ≡ true → Inv terms log fs (state_after terms log) → Asks terms log m bytes
asks_of terms log fs m bytes is inv = by (conn (state_after terms log) m) refl
  where
    s : State
    s = state_after terms log

    front_holds : is_some_with (λ e. is_front bytes (left_to_ask (state_after terms log) e)) (asking (state_after terms log) m) ≡ true
    front_holds = second_holds (is_writing (state_after terms log).owed m) (is_some_with (λ e. is_front bytes (left_to_ask (state_after terms log) e)) (asking (state_after terms log) m)) is

    none_there : (o : Option Exchange) → asking (state_after terms log) m ≡ o → o ≡ None → ⊥
    none_there o at none = let both : false ≡ true = sym (ap (is_some_with (λ e. is_front bytes (left_to_ask (state_after terms log) e))) (at ∙ none)) ∙ front_holds in cc both

    of_conn : (k : Conn) → conn (state_after terms log) m ≡ Some k → (o : Option Exchange) → asking (state_after terms log) m ≡ o → Asks terms log m bytes
    of_conn k found None at = absurd (none_there None at refl)
    of_conn k found (Some e) at =
        let there = in_find (is_conn m) k (state_after terms log).conns found in
        let line_is : first_some (λ n. option_and_then left_in (exchange (state_after terms log) n)) k.line ≡ Some e = sym (ap (λ (o : Option Conn). elim o as (λ c. Option Exchange) [ None ↦ None | Some j ↦ first_some (λ n. option_and_then left_in (exchange (state_after terms log) n)) j.line ]) found) ∙ at in
        let f = found_in (state_after terms log) k.line e line_is in
        let front : is_front bytes (left_to_ask (state_after terms log) e) ≡ true = sym (ap (is_some_with (λ x. is_front bytes (left_to_ask (state_after terms log) x))) at) ∙ front_holds in
        let w = front_of bytes (left_to_ask (state_after terms log) e) (first_holds (starts_with nat_eq (left_to_ask (state_after terms log) e) bytes) (not (is_empty (left_to_ask (state_after terms log) e))) front) in
        record {
          conn = k;
          exchange = e;
          asks = at;
          step = record {
            number = same_number k.number m there.1;
            there = there.0;
            is_open = opened_by terms log fs k e inv there.0 f;
            found = f;
            rest = w.0;
            left = w.1;
            some = not_empty (is_empty (left_to_ask (state_after terms log) e)) (second_holds (starts_with nat_eq (left_to_ask (state_after terms log) e) bytes) (not (is_empty (left_to_ask (state_after terms log) e))) front);
          };
        }

    by : (o : Option Conn) → conn (state_after terms log) m ≡ o → Asks terms log m bytes
    by None none = absurd (none_there None (ap (λ (o : Option Conn). elim o as (λ c. Option Exchange) [ None ↦ None | Some j ↦ first_some (λ n. option_and_then left_in (exchange (state_after terms log) n)) j.line ]) none) refl)
    by (Some k) found = of_conn k found (asking (state_after terms log) m) refl

-- the ask changes the exchange, and clients
next_lined : (b : Since) (s : State) (e : Exchange) (n : ℕ) (o : Bool) → FactsOf b (record s { exchanges = change (is_exchange e.number) (asked_more o n s.clock) s.exchanges })
    → Lined b (elim o as (λ c. State) [ false ↦ on_exchange e.number (asked_text n s.clock) s | true ↦ ask_body e n s ])
unfolding on_exchange ask_body on_client_of
next_lined b s e n false f = lined f
next_lined b s e n true f = lined f

asked-lined : (b : Since) (s : State) (e : Exchange) (m n : ℕ) → asking s m ≡ Some e → FactsOf b (record s { exchanges = change (is_exchange e.number) (asked_more (is_outstanding e) n s.clock) s.exchanges }) → Lined b (ask m n s)
unfolding ask ask_next
asked-lined b s e m n is f = subst (λ (o : Option Exchange). Lined b (elim o as (λ c. State) [ None ↦ s | Some x ↦ elim (is_outstanding x) as (λ c. State) [ false ↦ on_exchange x.number (asked_text n s.clock) s | true ↦ ask_body x n s ] ])) (sym is) (next_lined b s e n (is_outstanding e) f)

pub asked_step : (terms : List Term) (log : Log) (fs : ℕ → Option ℕ) (m : ℕ) (bytes : Bytes) → IsPermitted (state_after terms log) (Asked m bytes) → Inv terms log fs (state_after terms log) → Inv terms (log ++ Asked m bytes ∷ []) fs (after (state_after terms log) (Asked m bytes))
unfolding changed
asked_step terms log fs m bytes permitted inv = record {
  lines = settled_top terms (log ++ Asked m bytes ∷ []) (state_after terms log).top fs (after (state_after terms log) (Asked m bytes)) now;
  silent = λ n above. unasked n (lt_of_le_of_lt (facts_of now).low above);
  dials = numbered_more log (Asked m bytes) (state_after terms log).top (after (state_after terms log) (Asked m bytes)).top (facts_of now).low (λ n host port is. absurd (cc is)) inv.dials;
  one = λ n. one_by_number n (n == m) refl;
}
  where
    a : Asks terms log m bytes
    a = asks_of terms log fs m bytes (asked_so (state_after terms log) m bytes permitted) inv

    now : Lined (plain terms (log ++ Asked m bytes ∷ []) (state_after terms log).top fs) (after (state_after terms log) (Asked m bytes))
    now = paid-lined _ (asked-lined (plain terms (log ++ Asked m bytes ∷ []) (state_after terms log).top fs) (state_after terms log) a.exchange m (length bytes) a.asks (asked_facts terms log m bytes a.conn a.exchange a.step fs inv))

    unasked : (n : ℕ) → (state_after terms log).top < n → asked_on n (log ++ Asked m bytes ∷ []) ≡ []
    unasked n above =
        let known : a.conn.number ≤ (state_after terms log).top = (facts_of inv.lines).known a.conn a.step.there in
        let number : a.conn.number ≡ m = a.step.number in
        one_more log (Asked m bytes) n ∙ ap (λ (xs : Bytes). asked_on n log ++ xs) (elsewhere terms log m bytes a.conn a.exchange a.step fs inv n (λ eq. differ n eq above known number)) ∙ append-nil (asked_on n log) ∙ inv.silent n above
      where
        differ : (x : ℕ) → x ≡ m → (state_after terms log).top < x → a.conn.number ≤ (state_after terms log).top → a.conn.number ≡ m → ⊥
        differ x eq lt le number = omega arith

    one_by_number : (n : ℕ) (b : Bool) → (n == m) ≡ b → IsOneStream terms (log ++ Asked m bytes ∷ []) n (asked_on n (log ++ Asked m bytes ∷ []))
    one_by_number n true is = subst (λ x. IsOneStream terms (log ++ Asked m bytes ∷ []) x (asked_on x (log ++ Asked m bytes ∷ []))) (sym (same_number n m is)) (one_by terms (log ++ Asked m bytes ∷ []) m _ _ a.conn.line (now_tells terms log m bytes a.conn a.exchange a.step fs inv))
    one_by_number n false is = one_still terms log (Asked m bytes) n (elsewhere terms log m bytes a.conn a.exchange a.step fs inv n (λ eq. let both : true ≡ false = sym (number_same m) ∙ ap (λ x. x == m) (sym eq) ∙ is in cc both)) (inv.one n)

-- whoever it is whose response comes
record Behind (terms : List Term) (log : Log) (s : State) : Type 0 where
  firsts : ℕ → Option ℕ
  inv : Inv terms log firsts s

got_step : (terms : List Term) (log : Log) (m : ℕ) (bytes : Bytes) (s : State) → Behind terms log s → Behind terms (log ++ Got m bytes ∷ []) (after s (Got m bytes))
got_step terms log m bytes s w =
    let r = got-lined (length bytes) m bytes s (is_plain terms (log ++ Got m bytes ∷ []) s.top w.firsts) (got_grown terms log w.firsts m bytes s w.inv) in
    record { firsts = r.firsts; inv = got_over terms log w.firsts r.firsts m bytes s w.inv r.lines }

step : (terms : List Term) (log : Log) (h : Happening) → IsPermitted (state_after terms log) h → Behind terms log (state_after terms log) → Behind terms (log ++ h ∷ []) (after (state_after terms log) h)
step terms log (Asked m bytes) permitted w = record { firsts = w.firsts; inv = asked_step terms log w.firsts m bytes permitted w.inv }
step terms log (Got m bytes) permitted w = got_step terms log m bytes (state_after terms log) w
step terms log h permitted w = record { firsts = w.firsts; inv = quiet_step terms log w.firsts h (state_after terms log) tt permitted w.inv }

inv_from : (terms : List Term) (front log : Log) → Lawful terms (front ++ log) → Behind terms front (state_after terms front) → Behind terms (front ++ log) (state_after terms (front ++ log))
inv_from terms front [] lawful now = subst (λ (l : Log). Behind terms l (state_after terms l)) (sym (append-nil front)) now
inv_from terms front (h ∷ log) lawful now =
    let joined_logs : (front ++ h ∷ []) ++ log ≡ front ++ h ∷ log = append_assoc front (h ∷ []) log in
    let whole : Lawful terms ((front ++ h ∷ []) ++ log) = subst (λ (l : Log). Lawful terms l) (sym joined_logs) lawful in
    let next : Behind terms (front ++ h ∷ []) (state_after terms (front ++ h ∷ [])) = subst (λ (s : State). Behind terms (front ++ h ∷ []) s) (sym (after_all-append (start terms) front (h ∷ []))) (step terms front h (back_from (start terms) front (h ∷ log) lawful).0 now) in
    subst (λ (l : Log). Behind terms l (state_after terms l)) joined_logs (inv_from terms (front ++ h ∷ []) log whole next)

none_asked : (n : ℕ) → asked_on n [] ≡ []
unfolding asked_on
none_asked n = refl

pub first : (terms : List Term) (fs : ℕ → Option ℕ) → Inv terms [] fs (start terms)
first terms fs = record {
  lines = nobody (plain terms [] 0 fs) (start terms) (le_refl 0) refl refl refl;
  silent = λ n above. none_asked n;
  dials = none_numbered (start terms).top;
  one = λ n. record { asks = []; whole = tt; last = []; front = nothing refl; all = none_asked n };
}

behind_all : (terms : List Term) (log : Log) → Lawful terms log → Behind terms log (state_after terms log)
behind_all terms log lawful = inv_from terms [] log lawful (record { firsts = λ n. None; inv = first terms (λ n. None) })

pub one_stream : AsksAreOneStream
one_stream terms log number lawful = (behind_all terms log lawful).inv.one number

pub lines_go : LinesGoToTheirHosts
lines_go terms log lawful k e i j l = (facts_of (behind_all terms log lawful).inv.lines).hosts k e i j l

pub were_dialled : ConnectionsWereDialled
were_dialled terms log lawful k i = (facts_of (behind_all terms log lawful).inv.lines).dialled k i

pub dialled_once : NumbersAreDialledOnce
dialled_once terms log lawful number host other_host port other_port i j =
    (behind_all terms log lawful).inv.dials.once number host other_host port other_port (dialled_in log number host port i) (dialled_in log number other_host other_port j)
