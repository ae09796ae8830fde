-- The law: what is on record as sent stands in the log.
use Rattle.std.proofs.Common.{◌≡◌, refl, ℕ, Option, None, Bool, true, false, ◌==◌, List, [], ◌∷◌, ◌++◌, map, length, sym, subst, ap, ◌∙◌, append_assoc, le_refl}
use Rattle.std.proofs.lemmas.List.{append-nil}
use Rattle.std.specs.Prelude.{if◌then◌else◌}
use Rattle.pp_world.proofs.LogLemmas.{got-append}
use Rattle.pp_world.specs.Log.{Log}
use Rattle.pp_world.specs.Streams.{got as got_of, got_in}
use Rattle.pp_world.specs.declared.happening.Happening.{Happening}
use Rattle.pp_world.specs.declared.happening.Happening.TheVariants.{Woke, Waits, Clock, Opened, CanRead, CanWrite, Heard, HungUp, Said, Shut, Dialled, Undialled, Reached, Ended, Broke, Asked, Got, Dropped, NoneYet, Began, Did, Unread, Noted, Rooted, Listed, Listens, Configured, Printed, Stopped}
use Rattle.pp_law.proofs.Prefixes.{front_from}
use Rattle.pp_law.specs.After.{after, changed, paid}
use Rattle.pp_law.specs.Lawful.{Lawful}
use Rattle.pp_law.specs.Lists.{Bytes}
use Rattle.pp_law.specs.Permits.{IsPermitted}
use Rattle.pp_law.specs.Responses.{got}
use Rattle.pp_law.specs.State.{State, Term, Exchange, start}
use Rattle.pp_laws.specs.Numbers.{AreRising}
use Rattle.pp_laws.specs.Runs.{state_after}
use Rattle.pp_laws.proofs.Laws.{own_numbers}
use Rattle.pp_laws.proofs.Sound.{conn_number}
use Rattle.pp_laws.proofs.Tests.{number_same, same_number}
use Rattle.pp_laws_pool.proofs.Along.{after_all-append, back_from}
use Rattle.pp_laws_pool.proofs.View.{Walk, Holds, holds, facts_of, view}
use Rattle.pp_laws_pool.proofs.WalkClients.{end_replies-keeps, regained-keeps}
use Rattle.pp_laws_lines.proofs.Stream.{Inv as Lines, asked_step, first, got_grown, got_over, is_plain, plain, quiet_step as quiet_lines}
use Rattle.pp_laws_sent.specs.Stands.{SentStandsInTheLog, WasAskedOn}
use Rattle.pp_laws_sent.proofs.Came.{Began as HasBegun, Came, EndsWith, Rests, came_more, came_walk, no_end, none_apart}
use Rattle.pp_laws_sent.proofs.Happenings.{ReadsNothing, changed-rests}
use Rattle.pp_laws_sent.proofs.Pieces.{HasRead, at_end, got-came}

-- what came on each connection, and what was asked there
abbrev pub came_in : Log → ℕ → Bytes
came_in log number = got_of number log

-- ---- a log grows

once : (number : ℕ) (h : Happening) → got_of number (h ∷ []) ≡ got_in number h ++ []
unfolding got_of
once number h = refl

pub one_more : (log : Log) (h : Happening) (number : ℕ) → came_in (log ++ h ∷ []) number ≡ came_in log number ++ got_in number h
one_more log h number = got-append number log (h ∷ []) ∙ ap (λ (xs : Bytes). came_in log number ++ xs) (once number h ∙ append-nil (got_in number h))

pub asked_still : (terms : List Term) (log : Log) (h : Happening) (number : ℕ) (e : Exchange) → WasAskedOn terms log number e → WasAskedOn terms (log ++ h ∷ []) number e
asked_still terms log h number e w = record { front = w.front; behind = w.behind ++ h ∷ []; parts = sym (append_assoc w.front w.behind (h ∷ [])) ∙ ap (λ (l : Log). l ++ h ∷ []) w.parts; then = w.then }

-- ---- where nothing of an origin is read

quiet : (number : ℕ) (h : Happening) → ReadsNothing h → got_in number h ≡ []
quiet number (Got n bytes) is = absurd is
quiet number (Woke image) is = refl
quiet number (Waits w) is = refl
quiet number (Clock seconds) is = refl
quiet number (Opened n) is = refl
quiet number (CanRead n) is = refl
quiet number (CanWrite n) is = refl
quiet number (Heard c bytes) is = refl
quiet number (HungUp c) is = refl
quiet number (Said c offered bytes) is = refl
quiet number (Shut c) is = refl
quiet number (Dialled n host port) is = refl
quiet number (Undialled host port) is = refl
quiet number (Reached n) is = refl
quiet number (Ended n) is = refl
quiet number (Broke n) is = refl
quiet number (Asked n bytes) is = refl
quiet number (Dropped n) is = refl
quiet number (NoneYet n) is = refl
quiet number (Began op) is = refl
quiet number (Did op ok) is = refl
quiet number (Unread name) is = refl
quiet number (Noted remark) is = refl
quiet number (Rooted folder) is = refl
quiet number (Listed ok) is = refl
quiet number (Listens port ok) is = refl
quiet number (Configured file text) is = refl
quiet number (Printed text) is = refl
quiet number Stopped is = refl

-- behind a log, in a state, with whose response comes on each connection that is answered
pub record Inv (terms : List Term) (log : Log) (s : State) : Type 0 where
  pub firsts : ℕ → Option ℕ
  pub lines : Lines terms log firsts s
  pub came : Holds (Rests (came_in log) (WasAskedOn terms log) firsts) s

pub quiet_step : (terms : List Term) (log : Log) (firsts : ℕ → Option ℕ) (h : Happening) (s : State) → ReadsNothing h → Holds (Rests (came_in log) (WasAskedOn terms log) firsts) s → Holds (Rests (came_in (log ++ h ∷ [])) (WasAskedOn terms (log ++ h ∷ [])) firsts) (after s h)
quiet_step terms log firsts h s is came =
    changed-rests (came_in (log ++ h ∷ [])) (WasAskedOn terms (log ++ h ∷ [])) firsts s h is
    (holds (came_more (came_in log) (came_in (log ++ h ∷ [])) no_end (WasAskedOn terms log) (WasAskedOn terms (log ++ h ∷ [])) firsts (λ n. one_more log h n ∙ ap (λ (xs : Bytes). came_in log n ++ xs) (quiet n h is)) (λ n e w. asked_still terms log h n e w) (view s) (facts_of came)))

-- ---- where it is

got_end : (n number : ℕ) (bytes : Bytes) → got_in number (Got n bytes) ≡ at_end n bytes number
got_end n number bytes = by (n == number) (number == n) refl refl
  where
    by : (t u : Bool) → (n == number) ≡ t → (number == n) ≡ u → (if t then bytes else []) ≡ (elim u as (λ c. Bytes) [ true ↦ bytes | false ↦ [] ])
    by true true one two = refl
    by false false one two = refl
    by true false one two = let both : true ≡ false = sym (number_same n) ∙ ap (λ m. m == n) (same_number n number one) ∙ two in absurd (cc both)
    by false true one two = let both : true ≡ false = sym (number_same number) ∙ ap (λ m. m == number) (same_number number n two) ∙ one in absurd (cc both)

nothing_left : (n number : ℕ) → at_end n [] number ≡ []
nothing_left n number = by (number == n)
  where
    by : (t : Bool) → (elim t as (λ c. Bytes) [ true ↦ [] | false ↦ [] ]) ≡ []
    by true = refl
    by false = refl

pub put_down : (total : ℕ → Bytes) (asked : ℕ → Exchange → Type 0) (firsts : ℕ → Option ℕ) (n : ℕ) (s : State) → Holds (Came total (at_end n []) asked firsts true none_apart) s → Holds (Rests total asked firsts) s
put_down total asked firsts n s h = holds (record {
  stand = f.stand;
  read = λ k i. subst (λ (e : Bytes). EndsWith (total k.number) (k.unread ++ e)) (nothing_left n k.number) (f.read k i);
  more = f.more;
  past = f.past;
  shut = f.shut;
  begun = λ k a i is. subst (λ (e : Bytes). HasBegun (total k.number) e (asked k.number) (firsts k.number) a) (nothing_left n k.number) (f.begun k a i is);
  going = f.going;
  rise = λ on. absurd (cc on);
  from = λ on. absurd (cc on);
})
  where
    f : Came total (at_end n []) asked firsts true none_apart (view s)
    f = facts_of h

-- where the read begins
pub reading_now : (terms : List Term) (log : Log) (n : ℕ) (bytes : Bytes) → AreRising (map conn_number (state_after terms log).conns) → (inv : Inv terms log (state_after terms log)) → Holds (Came (came_in (log ++ Got n bytes ∷ [])) (at_end n bytes) (WasAskedOn terms (log ++ Got n bytes ∷ [])) inv.firsts true none_apart) (state_after terms log)
reading_now terms log n bytes rise inv = holds (record {
  stand = f.stand;
  read = f.read;
  more = f.more;
  past = f.past;
  shut = f.shut;
  begun = f.begun;
  going = f.going;
  rise = λ on. rise;
  from = λ on k e i j l. record {
    was = e;
    asks = record { front = log; behind = Got n bytes ∷ []; parts = refl; then = record { exchange = j; conn = k; there = i; numbered = refl; line = l } };
    is = record { number = refl; key = refl; head = refl; aim = refl };
  };
})
  where
    s : State
    s = state_after terms log

    f : Came (came_in (log ++ Got n bytes ∷ [])) (at_end n bytes) (WasAskedOn terms (log ++ Got n bytes ∷ [])) inv.firsts false none_apart (view s)
    f = came_more (came_in log) (came_in (log ++ Got n bytes ∷ [])) (at_end n bytes) (WasAskedOn terms log) (WasAskedOn terms (log ++ Got n bytes ∷ [])) inv.firsts (λ m. one_more log (Got n bytes) m ∙ ap (λ (xs : Bytes). came_in log m ++ xs) (got_end n m bytes)) (λ m e v. asked_still terms log (Got n bytes) m e v) (view s) (facts_of inv.came)

-- and where it is over
unfoldable pub got_over_inv : (terms : List Term) (log : Log) (n : ℕ) (bytes : Bytes) (inv : Inv terms log (state_after terms log))
    → HasRead (came_in (log ++ Got n bytes ∷ [])) (WasAskedOn terms (log ++ Got n bytes ∷ [])) (plain terms (log ++ Got n bytes ∷ []) (state_after terms log).top inv.firsts) n (got (length bytes) n bytes (state_after terms log)) → Inv terms (log ++ Got n bytes ∷ []) (after (state_after terms log) (Got n bytes))
unfolding changed paid
got_over_inv terms log n bytes inv read = record {
  firsts = read.firsts;
  lines = got_over terms log inv.firsts read.firsts n bytes (state_after terms log) inv.lines read.lines;
  came = regained-keeps w _ (holds (facts_of (end_replies-keeps w _ (put_down (came_in (log ++ Got n bytes ∷ [])) (WasAskedOn terms (log ++ Got n bytes ∷ [])) read.firsts n _ read.came))));
}
  where
    w : Walk (Rests (came_in (log ++ Got n bytes ∷ [])) (WasAskedOn terms (log ++ Got n bytes ∷ [])) read.firsts)
    w = came_walk (came_in (log ++ Got n bytes ∷ [])) no_end (WasAskedOn terms (log ++ Got n bytes ∷ [])) read.firsts false none_apart

pub got_step : (terms : List Term) (log : Log) (n : ℕ) (bytes : Bytes) → AreRising (map conn_number (state_after terms log).conns) → Inv terms log (state_after terms log) → Inv terms (log ++ Got n bytes ∷ []) (after (state_after terms log) (Got n bytes))
got_step terms log n bytes rise inv =
    got_over_inv terms log n bytes inv
    (got-came (came_in (log ++ Got n bytes ∷ [])) (WasAskedOn terms (log ++ Got n bytes ∷ [])) (length bytes) n bytes (plain terms (log ++ Got n bytes ∷ []) (state_after terms log).top inv.firsts) (state_after terms log) (le_refl (length bytes)) (is_plain terms (log ++ Got n bytes ∷ []) (state_after terms log).top inv.firsts)
    (got_grown terms log inv.firsts n bytes (state_after terms log) inv.lines) (reading_now terms log n bytes rise inv))

-- ---- all

unfoldable pub step : (terms : List Term) (log : Log) (h : Happening) → Lawful terms log → IsPermitted (state_after terms log) h → Inv terms log (state_after terms log) → Inv terms (log ++ h ∷ []) (after (state_after terms log) h)
step terms log (Got n bytes) lawful permitted inv = got_step terms log n bytes (own_numbers terms log lawful).conns_rise inv
step terms log (Asked n bytes) lawful permitted inv =
    record { firsts = inv.firsts; lines = asked_step terms log inv.firsts n bytes permitted inv.lines; came = quiet_step terms log inv.firsts (Asked n bytes) (state_after terms log) tt inv.came }
step terms log h lawful permitted inv =
    record { firsts = inv.firsts; lines = quiet_lines terms log inv.firsts h (state_after terms log) tt permitted inv.lines; came = quiet_step terms log inv.firsts h (state_after terms log) tt inv.came }

inv_from : (terms : List Term) (front log : Log) → Lawful terms (front ++ log) → Inv terms front (state_after terms front) → Inv terms (front ++ log) (state_after terms (front ++ log))
inv_from terms front [] lawful now = subst (λ (l : Log). Inv terms l (state_after terms l)) (sym (append-nil front)) now
inv_from terms front (h ∷ log) lawful now =
    let joined : (front ++ h ∷ []) ++ log ≡ front ++ h ∷ log = append_assoc front (h ∷ []) log in
    let whole : Lawful terms ((front ++ h ∷ []) ++ log) = subst (λ (l : Log). Lawful terms l) (sym joined) lawful in
    let next : Inv terms (front ++ h ∷ []) (state_after terms (front ++ h ∷ [])) = subst (λ (s : State). Inv terms (front ++ h ∷ []) s) (sym (after_all-append (start terms) front (h ∷ []))) (step terms front h (front_from (start terms) front (h ∷ log) lawful) (back_from (start terms) front (h ∷ log) lawful).0 now) in
    subst (λ (l : Log). Inv terms l (state_after terms l)) joined (inv_from terms (front ++ h ∷ []) log whole next)

pub nobody : ℕ → Option ℕ
nobody n = None

pub first_came : (terms : List Term) → Holds (Rests (came_in []) (WasAskedOn terms []) nobody) (start terms)
first_came terms = holds (record {
  stand = λ p i. absurd i;
  read = λ k i. absurd i;
  more = λ k i. absurd i;
  past = λ k a i. absurd i;
  shut = λ k i. absurd i;
  begun = λ k a i. absurd i;
  going = λ k a i. absurd i;
  rise = λ on. absurd (cc on);
  from = λ on. absurd (cc on);
})

pub inv_after : (terms : List Term) (log : Log) → Lawful terms log → Inv terms log (state_after terms log)
inv_after terms log lawful = inv_from terms [] log lawful (record { firsts = nobody; lines = first terms nobody; came = first_came terms })

pub sent_stands : SentStandsInTheLog
sent_stands terms log part lawful i = (facts_of (inv_after terms log lawful).came).stand part i
