-- A connection is shown as long as the exchanges of its line are asked as before.
use Rattle.std.proofs.Common.{◌≡◌, refl, sym, subst, ap, ap₂, ◌∙◌, ℕ, ◌+◌, Bool, true, false, ◌==◌, ◌||◌, nat_lt, length, drop, cond, find, List, [], ◌∷◌, ◌++◌, Some, None, Option}
use Rattle.pp_cache_law.specs.Pairs.{AreBoth}
use Rattle.pp_law.specs.Connections.{exchange, is_exchange}
use Rattle.pp_law.specs.Lists.{Bytes, change}
use Rattle.pp_law.specs.State.{State, Conn, Exchange}
use Rattle.pp_peers.specs.declared.peers.Peer.{Peer}
use Rattle.pp_peers_law.proofs.Asks.{rest_in}
use Rattle.pp_peers_law.proofs.Finds.{is_alone_in}
use Rattle.pp_peers_law.specs.Peers.{has_alone, rests_of, ShowsAsk, ShowsConn, ShowsLine, ShowsPipe}
use Rattle.pp_pipe.specs.declared.asks.Ask.{Ask}
use Rattle.pp_states_law.specs.Asks.{AllAreAskedAs, AreAskedAs, FramesAreTheLaws, IsAskedAs}

-- ---- a line

ask_again : (ask : Ask) (e d : Exchange) → IsAskedAs e d → ShowsAsk ask e → ShowsAsk ask d
ask_again ask e d same shows = record {
  to_head = shows.to_head ∙ sym same.to_head;
  is_begun = shows.is_begun ∙ ap (λ (n : ℕ). nat_lt 0 n) (sym same.asked);
  text = ap (λ (n : ℕ). n + ask.text_left) same.asked ∙ shows.text ∙ ap (λ (t : Bytes). length t) (sym same.text);
}

pub line_again : (s t : State) (line : List ℕ) (asks : List Ask) → AreAskedAs s t line → ShowsLine s line asks → ShowsLine t line asks
line_again s t [] [] same shows = tt
line_again s t [] (ask ∷ asks) same shows = absurd shows
line_again s t (n ∷ line) [] same shows = absurd shows
line_again s t (n ∷ line) (ask ∷ asks) same shows =
    (by (exchange t n) refl (subst (λ (o : Option Exchange). AreBoth IsAskedAs o (exchange t n)) shows.0.1 same.0), line_again s t line asks same.1 shows.1)
  where
    by : (o : Option Exchange) → exchange t n ≡ o → AreBoth IsAskedAs (Some shows.0.0) o → (d : Exchange) × (exchange t n ≡ Some d) × ShowsAsk ask d
    by None is both = absurd both
    by (Some d) is both = (d, is, ask_again ask shows.0.0 d both shows.0.2)

rest_same : (o u : Option Exchange) → AreBoth IsAskedAs o u → rest_in u ≡ rest_in o
rest_same None None both = refl
rest_same None (Some d) both = absurd both
rest_same (Some e) None both = absurd both
rest_same (Some e) (Some d) both = ap₂ (λ (n : ℕ) (t : Bytes). drop n t) both.asked both.text

rests_same : (s t : State) (line : List ℕ) → AreAskedAs s t line → rests_of t line ≡ rests_of s line
rests_same s t [] same = refl
rests_same s t (n ∷ line) same = ap₂ (λ (a b : Bytes). a ++ b) (rest_same (exchange s n) (exchange t n) same.0) (rests_same s t line same.1)

alone_same : (o u : Option Exchange) → AreBoth IsAskedAs o u → is_alone_in u ≡ is_alone_in o
alone_same None None both = refl
alone_same None (Some d) both = absurd both
alone_same (Some e) None both = absurd both
alone_same (Some e) (Some d) both = both.alone

pub any_alone : (s t : State) (line : List ℕ) → AreAskedAs s t line → has_alone t line ≡ has_alone s line
any_alone s t [] same = refl
any_alone s t (n ∷ line) same = ap₂ (λ (a b : Bool). a || b) (alone_same (exchange s n) (exchange t n) same.0) (any_alone s t line same.1)

-- ---- a connection

pub pipe_again : (s t : State) (p : Peer) (k : Conn) → AreAskedAs s t k.line → ShowsPipe s p k → ShowsPipe t p k
pipe_again s t p k same shows = record {
  line = line_again s t k.line p.pipe.asks same shows.line;
  stray = shows.stray;
  out = shows.out ∙ sym (rests_same s t k.line same);
  reading = shows.reading;
  none_alone = λ may. any_alone s t k.line same ∙ shows.none_alone may;
}

pub conn_again : (s t : State) (p : Peer) (k : Conn) → (k.is_closing ≡ false → AreAskedAs s t k.line) → ShowsConn s p k → ShowsConn t p k
conn_again s t p k same shows = record {
  number = shows.number;
  host = shows.host;
  port = shows.port;
  is_reached = shows.is_reached;
  has_brought = shows.has_brought;
  may_pipeline = shows.may_pipeline;
  is_closing = shows.is_closing;
  stays = shows.stays;
  mark = shows.mark;
  has_waited = shows.has_waited;
  pipe = λ goes. pipe_again s t p k (same goes) (shows.pipe goes);
}

pub frames : FramesAreTheLaws
frames s t [] [] same shows = tt
frames s t [] (k ∷ ks) same shows = absurd shows
frames s t (p ∷ ps) [] same shows = absurd shows
frames s t (p ∷ ps) (k ∷ ks) same shows = (conn_again s t p k same.0 shows.0, frames s t ps ks same.1 shows.1)

-- ---- exchanges that are asked as before

pub itself : (o : Option Exchange) → AreBoth IsAskedAs o o
itself None = tt
itself (Some e) = record { to_head = refl; asked = refl; text = refl; alone = refl }

pub line_as : (s t : State) → ((n : ℕ) → AreBoth IsAskedAs (exchange s n) (exchange t n)) → (line : List ℕ) → AreAskedAs s t line
line_as s t each [] = tt
line_as s t each (n ∷ line) = (each n, line_as s t each line)

pub all_as : (s t : State) → ((n : ℕ) → AreBoth IsAskedAs (exchange s n) (exchange t n)) → (ks : List Conn) → AllAreAskedAs s t ks
all_as s t each [] = tt
all_as s t each (k ∷ ks) = ((λ goes. line_as s t each k.line), all_as s t each ks)

-- one is changed, and is asked as before
pub one_as : (n m : ℕ) (to : Exchange → Exchange) → ((e : Exchange) → (to e).number ≡ e.number) → ((e : Exchange) → IsAskedAs e (to e)) → (es : List Exchange)
    → AreBoth IsAskedAs (find (is_exchange m) es) (find (is_exchange m) (change (is_exchange n) to es))
one_as n m to number same [] = tt
one_as n m to number same (e ∷ es) = by (is_exchange n e) (one_as n m to number same es)
  where
    at : (b : Bool) (d : Exchange) → IsAskedAs e d → AreBoth IsAskedAs (find (is_exchange m) es) (find (is_exchange m) (change (is_exchange n) to es))
        → AreBoth IsAskedAs (cond b (Some e) (find (is_exchange m) es)) (cond b (Some d) (find (is_exchange m) (change (is_exchange n) to es)))
    at true d asked rest = asked
    at false d asked rest = rest

    by : (t : Bool) → AreBoth IsAskedAs (find (is_exchange m) es) (find (is_exchange m) (change (is_exchange n) to es))
        → AreBoth IsAskedAs (cond (is_exchange m e) (Some e) (find (is_exchange m) es))
        (cond (is_exchange m (elim t as (λ b. Exchange) [ true ↦ to e | false ↦ e ])) (Some (elim t as (λ b. Exchange) [ true ↦ to e | false ↦ e ])) (find (is_exchange m) (change (is_exchange n) to es)))
    by true rest =
        subst (λ (b : Bool). AreBoth IsAskedAs (cond (is_exchange m e) (Some e) (find (is_exchange m) es)) (cond b (Some (to e)) (find (is_exchange m) (change (is_exchange n) to es)))) (ap (λ (i : ℕ). i == m) (sym (number e)))
        (at (is_exchange m e) (to e) (same e) rest)
    by false rest = at (is_exchange m e) e (record { to_head = refl; asked = refl; text = refl; alone = refl }) rest
