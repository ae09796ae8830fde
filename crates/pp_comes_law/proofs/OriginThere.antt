-- What stands of the connection of an origin where an event is awaited: it is there, goes on, and a response that was begun answers the first of
-- its line.
use Rattle.std.proofs.Common.{◌≡◌, ◌≤◌, refl, sym, subst, ap, ◌∙◌, ℕ, Bool, true, false, ◌||◌, is_some, length, List, [], ◌∷◌, Option, Some, None, inl, inr}
use Rattle.std.specs.List.{list_any}
use Rattle.std.specs.Prelude.{vec_capacity}
use Rattle.pp_comes_law.specs.Awaited.{IsAwaited}
use Rattle.pp_endings_law.specs.Gone.{IsAnswering}
use Rattle.pp_events_law.specs.Ready.{KeysAreGiven}
use Rattle.pp_events_law.specs.Stands.{come}
use Rattle.pp_law.specs.Connections.{exchange, is_exchange}
use Rattle.pp_law.specs.State.{State, Answer, Client, Conn, Exchange, Term}
use Rattle.pp_law.specs.Turn.{rest_with}
use Rattle.pp_laws.proofs.Lists.{in_find}
use Rattle.pp_laws.proofs.Tests.{same_number}
use Rattle.pp_laws.specs.Runs.{IsIn}
use Rattle.pp_laws_answers.proofs.Firsts.{answers_to_firsts}
use Rattle.pp_laws_answers.specs.Answers.{IsToFirst}
use Rattle.pp_peers.specs.declared.peers.Peer.{Peer}
use Rattle.pp_peers_law.specs.Peers.{ShowConns, ShowsConn, ShowsLine}
use Rattle.pp_pipe.specs.declared.asks.Ask.{Ask}
use Rattle.pp_proxy.specs.Handling.{Handles}
use Rattle.pp_proxy.specs.Moving.{Turning}
use Rattle.pp_reads_law.proofs.KeysGiven.{events_give}
use Rattle.pp_world.specs.Log.{Log}
use Rattle.pp_world.specs.declared.event.Event.{Event}
use Rattle.pp_world.specs.declared.event.Wants.{Wants}

-- ---- of lists

-- none of them passes where none does
pub none_in : {A : Type 0} (p : A → Bool) (x : A) (xs : List A) → list_any p xs ≡ false → IsIn x xs → p x ≡ false
none_in p x [] none i = absurd i
none_in p x (y ∷ ys) none i = by (p y) refl none i (λ off j. none_in p x ys off j)
  where
    by : (b : Bool) → p y ≡ b → (b || list_any p ys) ≡ false → IsIn x (y ∷ ys) → (list_any p ys ≡ false → IsIn x ys → p x ≡ false) → p x ≡ false
    by true is off i rest = absurd (cc off)
    by false is off (inl e) rest = ap p e ∙ is
    by false is off (inr i) rest = rest off i

pub first_off : (a b : Bool) → (a || b) ≡ false → a ≡ false
first_off true b is = absurd (cc is)
first_off false b is = refl

pub second_off : (a b : Bool) → (a || b) ≡ false → b ≡ false
second_off true b is = absurd (cc is)
second_off false b is = is

pub is_there : {A : Type 0} (o : Option A) → is_some o ≡ true → (x : A) × (o ≡ Some x)
is_there None is = absurd (cc is)
is_there (Some x) is = (x, refl)

-- each connection is shown by one of the program
pub shown_conn : (s : State) (peers : List Peer) (ks : List Conn) (k : Conn) → ShowConns s peers ks → IsIn k ks → (peer : Peer) × ShowsConn s peer k
shown_conn s [] [] k shows i = absurd i
shown_conn s [] (j ∷ ks) k shows i = absurd shows
shown_conn s (p ∷ ps) [] k shows i = absurd i
shown_conn s (p ∷ ps) (j ∷ ks) k shows (inl e) = (p, subst (λ (c : Conn). ShowsConn s p c) (sym e) shows.0)
shown_conn s (p ∷ ps) (j ∷ ks) k shows (inr i) = shown_conn s ps ks k shows.1 i

-- the first of its line is there
pub first_shown : (s : State) (n : ℕ) (line : List ℕ) (asks : List Ask) → ShowsLine s (n ∷ line) asks → (e : Exchange) × (exchange s n ≡ Some e)
first_shown s n line [] shows = absurd shows
first_shown s n line (ask ∷ asks) shows = (shows.0.0, shows.0.1)

-- ---- where it is awaited

module _ (terms : List Term) (log : Log) (number : ℕ → ℕ) (w : Wants) (x : Turning) (u : State) (it : IsAwaited terms log number w x u) where
  abbrev s : State
  s = rest_with w u

  pub goes_on : (j : Conn) → IsIn j s.conns → j.is_closing ≡ false
  goes_on j i = none_in (λ (k : Conn). k.is_closing) j s.conns (second_off (list_any (λ (c : Client). c.is_closing) s.clients) (list_any (λ (k : Conn). k.is_closing) s.conns) it.closed) i

  pub shown : (j : Conn) → IsIn j s.conns → (peer : Peer) × ShowsConn s peer j
  shown j i = shown_conn s x.moving.desk.peers s.conns j it.stands.desk.turn.steps.shows.conns i

  pub answers_first : (j : Conn) (a : Answer) → IsIn j s.conns → j.answer ≡ Some a → IsAnswering s j
  answers_first j a i is = record { first = found.0; others = first.others; line = first.line ∙ ap (λ n. n ∷ first.others) (sym numbered); known = subst (λ n. exchange s n ≡ Some found.0) (sym numbered) found.1; whole = first.whole found.0 found.1 }
    where
      first : IsToFirst s j
      first = answers_to_firsts terms s log it.obeys j a i is

      line : ShowsLine s j.line (shown j i).0.pipe.asks
      line = ((shown j i).1.pipe (goes_on j i)).line

      found : (e : Exchange) × (exchange s first.number ≡ Some e)
      found = first_shown s first.number first.others (shown j i).0.pipe.asks (subst (λ (ns : List ℕ). ShowsLine s ns (shown j i).0.pipe.asks) first.line line)

      numbered : found.0.number ≡ first.number
      numbered = same_number found.0.number first.number (in_find (is_exchange first.number) found.0 s.exchanges found.1).1

-- ---- memory for the keys of heads that are read in the event

pub keys_given : (terms : List Term) (log : Log) (number : ℕ → ℕ) (w : Wants) (x y : Turning) (u : State) (event : Event) → IsAwaited terms log number w x u → Handles event (come event x) y → y.moving.desk.state.is_astray ≡ false
    → KeysAreGiven x.moving.desk.state.seats.items y.moving.desk.state.seats.items
keys_given terms log number w x y u event it handles straight = (events_give event (come event x) y room handles).given straight
  where
    room : length x.moving.desk.buffer.items ≤ vec_capacity x.moving.desk.«data»
    room = subst (λ (n : ℕ). n ≤ vec_capacity x.moving.desk.«data») (sym it.buffer) it.holds
