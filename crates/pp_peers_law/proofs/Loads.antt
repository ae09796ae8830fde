-- What a connection carries, and where an ask goes.
use Rattle.std.proofs.Common.{◌≡◌, refl, sym, ap, ap₂, ◌∙◌, ℕ, ◌+◌, Bool, true, false, ◌==◌, ◌&&◌, not, cond, length, map, count_by, fold, suc, List, [], ◌∷◌, Some, Option, arith}
use Rattle.std.specs.List.{list_any}
use Rattle.std.proofs.lemmas.Bool.Decides.{nat_tests}
use Rattle.pp_law.specs.Connections.{exchange, is_outstanding as is_asked, load_of, with_load, limits}
use Rattle.pp_law.specs.Lists.{Bytes, is_some_with, without}
use Rattle.pp_law.specs.Requests.{goes_alone}
use Rattle.pp_law.specs.State.{State, Exchange, Conn}
use Rattle.pp_peers.specs.Peers.{Loaded, load_of as load_in, with_load as with_load_in}
use Rattle.pp_peers.specs.Placing.{place}
use Rattle.pp_peers.specs.declared.peers.Load.{Load}
use Rattle.pp_peers.specs.declared.peers.Peer.{Peer}
use Rattle.pp_peers_law.proofs.Finds.{no_or}
use Rattle.pp_peers_law.specs.Peers.{has_alone, ShowsAsk, ShowsConn, ShowsLine, ShowConns, ShowsPipe}
use Rattle.pp_peers_law.specs.Places.{is_closing, LoadsAreTheLaws, PlacesAreTheLaws}
use Rattle.pp_pipe.specs.Asks.{is_outstanding}
use Rattle.pp_pipe.specs.declared.asks.Ask.{Ask}

-- ---- of the line

asks_len : (s : State) (line : List ℕ) (asks : List Ask) → ShowsLine s line asks → length asks ≡ length line
asks_len s [] [] shows = refl
asks_len s [] (ask ∷ asks) shows = absurd shows
asks_len s (n ∷ line) [] shows = absurd shows
asks_len s (n ∷ line) (ask ∷ asks) shows = ap suc (asks_len s line asks shows.1)

-- nothing is left of a text where all of it was asked
pub none_left : (asked left len : ℕ) → asked + left ≡ len → (left == 0) ≡ (asked == len)
none_left asked left len is = grind (arith, nat_tests)

is_of_law : (s : State) (n : ℕ) (ask : Ask) (e : Exchange) → exchange s n ≡ Some e → ShowsAsk ask e → is_outstanding ask ≡ is_some_with is_asked (exchange s n)
is_of_law s n ask e found shows = none_left e.asked ask.text_left (length e.text) shows.text ∙ sym (ap (λ (o : Option Exchange). is_some_with is_asked o) found)

-- counted from a number on
outstanding_from : (a : ℕ) (s : State) (line : List ℕ) (asks : List Ask) → ShowsLine s line asks → fold (λ (m : ℕ) (ask : Ask). m + cond (is_outstanding ask) 1 0) a asks ≡ fold (λ (m n : ℕ). m + cond (is_some_with is_asked (exchange s n)) 1 0) a line
outstanding_from a s [] [] shows = refl
outstanding_from a s [] (ask ∷ asks) shows = absurd shows
outstanding_from a s (n ∷ line) [] shows = absurd shows
outstanding_from a s (n ∷ line) (ask ∷ asks) shows =
    outstanding_from (a + cond (is_outstanding ask) 1 0) s line asks shows.1
    ∙ ap (λ (b : Bool). fold (λ (m i : ℕ). m + cond (is_some_with is_asked (exchange s i)) 1 0) (a + cond b 1 0) line) (is_of_law s n ask shows.0.0 shows.0.1 shows.0.2)

outstanding : (s : State) (line : List ℕ) (asks : List Ask) → ShowsLine s line asks → count_by is_outstanding asks ≡ count_by (λ n. is_some_with is_asked (exchange s n)) line
outstanding s line asks shows = outstanding_from 0 s line asks shows

-- ---- of the connection

not_alone : (may alone : Bool) → (may ≡ true → alone ≡ false) → may ≡ may && not alone
not_alone true true none = let both : true ≡ false = none refl in cc both
not_alone true false none = refl
not_alone false alone none = refl

load : (s : State) (p : Peer) (k : Conn) → p.pipe.may_pipeline ≡ k.may_pipeline → ShowsPipe s p k → load_in p ≡ load_of s k
load s p k same pipe =
    let asks : length p.pipe.asks ≡ length k.line = asks_len s k.line p.pipe.asks pipe.line in
    let sent : count_by is_outstanding p.pipe.asks ≡ count_by (λ n. is_some_with is_asked (exchange s n)) k.line = outstanding s k.line p.pipe.asks pipe.line in
    let may : p.pipe.may_pipeline ≡ k.may_pipeline && not (has_alone s k.line) = same ∙ not_alone k.may_pipeline (has_alone s k.line) pipe.none_alone in
    ap (λ (n : ℕ). record { asks = n; outstanding = count_by is_outstanding p.pipe.asks; may_pipeline = p.pipe.may_pipeline }) asks
    ∙ ap (λ (n : ℕ). record { asks = length k.line; outstanding = n; may_pipeline = p.pipe.may_pipeline }) sent
    ∙ ap (λ (b : Bool). record { asks = length k.line; outstanding = count_by (λ n. is_some_with is_asked (exchange s n)) k.line; may_pipeline = b }) may

pub loads : LoadsAreTheLaws
loads s p k shows is_open =
    ap (λ (n : ℕ). record { number = n; host = p.host.items; port = p.port; load = load_in p }) shows.number
    ∙ ap (λ (h : Bytes). record { number = k.number; host = h; port = p.port; load = load_in p }) shows.host
    ∙ ap (λ (n : ℕ). record { number = k.number; host = k.host; port = n; load = load_in p }) shows.port
    ∙ ap (λ (l : Load). record { number = k.number; host = k.host; port = k.port; load = l }) (load s p k (shows.may_pipeline is_open) (shows.pipe is_open))

-- ---- of all

all_loads : (s : State) (ps : List Peer) (ks : List Conn) → ShowConns s ps ks → list_any is_closing ks ≡ false → map with_load_in ps ≡ map (with_load s) (without is_closing ks)
all_loads s [] [] shows none = refl
all_loads s [] (k ∷ ks) shows none = absurd shows
all_loads s (p ∷ ps) [] shows none = absurd shows
all_loads s (p ∷ ps) (k ∷ ks) shows none =
    let these : (k.is_closing ≡ false) × (list_any is_closing ks ≡ false) = no_or k.is_closing (list_any is_closing ks) none in
    ap₂ (λ (l : Loaded) (ls : List Loaded). l ∷ ls) (loads s p k shows.0 these.0) (all_loads s ps ks shows.1 these.1)
    ∙ sym (ap (λ (b : Bool). map (with_load s) (cond (not b) (k ∷ without is_closing ks) (without is_closing ks))) these.0)

pub places : PlacesAreTheLaws
places s ps e shows none = ap (λ (ls : List Loaded). place (limits s) e.key.host e.key.port (goes_alone e.head) ls) (all_loads s ps s.conns shows none)
