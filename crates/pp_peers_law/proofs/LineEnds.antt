-- What becomes of the line of a connection.
use Rattle.std.proofs.Common.{◌≡◌, refl, sym, subst, ap, ap₂, ◌∙◌, ℕ, ◌+◌, Bool, true, false, ◌==◌, ◌||◌, length, drop, take, List, [], ◌∷◌, ◌++◌, Some, Option, arith}
use Rattle.std.proofs.lemmas.List.{append_assoc, append-nil}
use Rattle.pp_law.specs.Connections.{end_exchange, exchange, is_outstanding, on_conn, on_exchange, put_on}
use Rattle.pp_law.specs.Lists.{Bytes, has_number}
use Rattle.pp_law.specs.Requests.{goes_alone}
use Rattle.pp_law.specs.Responses.{asks_head}
use Rattle.pp_law.specs.State.{State, Exchange}
use Rattle.pp_peers.specs.declared.peers.Peer.{Peer}
use Rattle.pp_peers_law.proofs.Asks.{no_text, nothing_more, rest_in}
use Rattle.pp_peers_law.proofs.Finds.{is_alone_in, find_elsewhere, find_there, find_without, no_or, other_way}
use Rattle.pp_peers_law.specs.Asked.{AreDistinct}
use Rattle.pp_peers_law.specs.Lines.{EndsAreTheLaws, PutsAreTheLaws, ShowsRest}
use Rattle.pp_peers_law.specs.Peers.{has_alone, rest_of, rests_of, ShowsAsk, ShowsLine, ShowsPipe}
use Rattle.pp_pipe.specs.Asks.{fresh, total}
use Rattle.pp_pipe.specs.declared.asks.Ask.{Ask}
use Rattle.pp_pipe.specs.declared.fate.Fate.{Fate}

-- ---- an exchange comes to it

abbrev placed : ℕ → Exchange → Exchange
placed k e = record e { place = Some k; asked = 0 }

there : (s : State) (e : Exchange) (k : ℕ) → exchange s e.number ≡ Some e → exchange (put_on e.number k s) e.number ≡ Some (placed k e)
unfolding put_on on_conn on_exchange
there s e k found = find_there e.number (placed k) (λ x. refl) s.exchanges e found

elsewhere : (s : State) (e : Exchange) (k n : ℕ) → (e.number == n) ≡ false → exchange (put_on e.number k s) n ≡ exchange s n
unfolding put_on on_conn on_exchange
elsewhere s e k n isnt = find_elsewhere e.number n (placed k) (λ x. refl) isnt s.exchanges

none_and_all : (n : ℕ) → 0 + n ≡ n
none_and_all n = grind (arith)

come : (s : State) (e : Exchange) (k : ℕ) (line : List ℕ) (asks : List Ask) → exchange s e.number ≡ Some e → ShowsLine s line asks → has_number e.number line ≡ false
    → ShowsLine (put_on e.number k s) (line ++ e.number ∷ []) (asks ++ fresh e.text (asks_head e) ∷ [])
come s e k [] [] found shows none = ((placed k e, there s e k found, record { to_head = refl; is_begun = refl; text = none_and_all (length e.text) }), tt)
come s e k [] (ask ∷ asks) found shows none = absurd shows
come s e k (n ∷ line) [] found shows none = absurd shows
come s e k (n ∷ line) (ask ∷ asks) found shows none =
    let these : ((n == e.number) ≡ false) × (has_number e.number line ≡ false) = no_or (n == e.number) (has_number e.number line) none in
    ((shows.0.0, elsewhere s e k n (other_way n e.number these.0) ∙ shows.0.1, shows.0.2), come s e k line asks found shows.1 these.1)

texts : (s : State) (e : Exchange) (k : ℕ) (line : List ℕ) → exchange s e.number ≡ Some e → has_number e.number line ≡ false → rests_of (put_on e.number k s) (line ++ e.number ∷ []) ≡ rests_of s line ++ e.text
texts s e k [] found none = ap (λ (o : Option Exchange). rest_in o ++ []) (there s e k found) ∙ append-nil e.text
texts s e k (n ∷ line) found none =
    let these : ((n == e.number) ≡ false) × (has_number e.number line ≡ false) = no_or (n == e.number) (has_number e.number line) none in
    ap₂ (λ (o : Option Exchange) (t : Bytes). rest_in o ++ t) (elsewhere s e k n (other_way n e.number these.0)) (texts s e k line found these.1)
    ∙ sym (append_assoc (rest_of s n) (rests_of s line) e.text)

alone : (s : State) (e : Exchange) (k : ℕ) (line : List ℕ) → exchange s e.number ≡ Some e → has_number e.number line ≡ false → goes_alone e.head ≡ false → has_alone s line ≡ false → has_alone (put_on e.number k s) (line ++ e.number ∷ []) ≡ false
alone s e k [] found none others before = ap (λ (o : Option Exchange). is_alone_in o || false) (there s e k found) ∙ ap (λ (b : Bool). b || false) others
alone s e k (n ∷ line) found none others before =
    let these : ((n == e.number) ≡ false) × (has_number e.number line ≡ false) = no_or (n == e.number) (has_number e.number line) none in
    let those : (is_alone_in (exchange s n) ≡ false) × (has_alone s line ≡ false) = no_or (is_alone_in (exchange s n)) (has_alone s line) before in
    ap₂ (λ (a b : Bool). a || b) (ap is_alone_in (elsewhere s e k n (other_way n e.number these.0)) ∙ those.0) (alone s e k line found these.1 others those.1)

pub puts : PutsAreTheLaws
puts s p k e shows is_open coming =
    let pipe : ShowsPipe s p k = shows.pipe is_open in
    record {
      line = come s e k.number k.line p.pipe.asks coming.there pipe.line coming.is_new;
      stray = pipe.stray;
      out = ap (λ (t : Bytes). t ++ e.text) pipe.out ∙ sym (texts s e k.number k.line coming.there coming.is_new);
      reading = pipe.reading;
      none_alone = λ may. alone s e k.number k.line coming.there coming.is_new (coming.with_others may) (pipe.none_alone may);
    }

-- ---- its first is over

gone : (s : State) (e : Exchange) (n : ℕ) → (e.number == n) ≡ false → exchange (end_exchange e.number s) n ≡ exchange s n
unfolding end_exchange
gone s e n isnt = find_without e.number n isnt s.exchanges

others_show : (s : State) (e : Exchange) (line : List ℕ) (asks : List Ask) → ShowsLine s line asks → has_number e.number line ≡ false → ShowsLine (end_exchange e.number s) line asks
others_show s e [] [] shows none = tt
others_show s e [] (ask ∷ asks) shows none = absurd shows
others_show s e (n ∷ line) [] shows none = absurd shows
others_show s e (n ∷ line) (ask ∷ asks) shows none =
    let these : ((n == e.number) ≡ false) × (has_number e.number line ≡ false) = no_or (n == e.number) (has_number e.number line) none in
    ((shows.0.0, gone s e n (other_way n e.number these.0) ∙ shows.0.1, shows.0.2), others_show s e line asks shows.1 these.1)

others_left : (s : State) (e : Exchange) (line : List ℕ) → has_number e.number line ≡ false → rests_of (end_exchange e.number s) line ≡ rests_of s line
others_left s e [] none = refl
others_left s e (n ∷ line) none =
    let these : ((n == e.number) ≡ false) × (has_number e.number line ≡ false) = no_or (n == e.number) (has_number e.number line) none in
    ap₂ (λ (o : Option Exchange) (t : Bytes). rest_in o ++ t) (gone s e n (other_way n e.number these.0)) (others_left s e line these.1)

none_of : (stray text : ℕ) → stray ≡ 0 → text ≡ 0 → stray + (0 + text) ≡ 0
none_of stray text one two = grind (arith)

same_exchange : (d e : Exchange) (o : Option Exchange) → o ≡ Some d → o ≡ Some e → d ≡ e
same_exchange d e o is same = let both : Some d ≡ Some e = sym is ∙ same in cc both

behind : (s : State) (p : Peer) (e : Exchange) (others : List ℕ) (fate : Fate) (asks : List Ask) → p.pipe.asks ≡ asks → ShowsLine s (e.number ∷ others) asks → p.pipe.stray ≡ 0 → p.pipe.out ≡ rests_of s (e.number ∷ others)
    → exchange s e.number ≡ Some e → is_outstanding e ≡ true → has_number e.number others ≡ false → ShowsRest (end_exchange e.number s) p fate others
behind s p e others fate [] are shows stray out found whole none = absurd shows
behind s p e others fate (ask ∷ asks) are shows stray out found whole none =
    let same : shows.0.0 ≡ e = same_exchange shows.0.0 e (exchange s e.number) shows.0.1 found in
    let shown : ShowsAsk ask e = subst (λ (d : Exchange). ShowsAsk ask d) same shows.0.2 in
    record {
      line = subst (λ (xs : List Ask). ShowsLine (end_exchange e.number s) others (drop 1 xs)) (sym are) (others_show s e others asks shows.1 none);
      stray = ap (λ (xs : List Ask). p.pipe.stray + total (take 1 xs)) are ∙ none_of p.pipe.stray ask.text_left stray (no_text e.asked ask.text_left (length e.text) shown.text whole);
      out = out ∙ ap (λ (o : Option Exchange). rest_in o ++ rests_of s others) found ∙ ap (λ (t : Bytes). t ++ rests_of s others) (nothing_more e.asked e.text whole) ∙ sym (others_left s e others none);
    }

first_of : (n : ℕ) (others line : List ℕ) → line ≡ n ∷ others → AreDistinct line → has_number n others ≡ false
first_of n others line is once = (subst AreDistinct is once).0

pub ends : EndsAreTheLaws
ends s p k e others fate shows is_open over =
    let pipe : ShowsPipe s p k = shows.pipe is_open in
    behind s p e others fate p.pipe.asks refl (subst (λ (l : List ℕ). ShowsLine s l p.pipe.asks) over.line pipe.line) pipe.stray (pipe.out ∙ ap (λ (l : List ℕ). rests_of s l) over.line) over.there over.whole
    (first_of e.number others k.line over.line over.once)
