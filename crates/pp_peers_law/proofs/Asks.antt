-- What is asked on a connection.
use Rattle.std.proofs.Common.{◌≡◌, ◌⊎◌, inl, inr, refl, sym, subst, ap, ap₂, ◌∙◌, ℕ, ◌+◌, ◌-◌, ◌≤◌, Bool, true, false, ◌==◌, ◌||◌, not, nat_lt, min, length, take, drop, find, List, [], ◌∷◌, ◌++◌, Some, None, Option, option_and_then, arith}
use Rattle.std.proofs.Math.Seq.{take-append_seam}
use Rattle.std.proofs.lemmas.Bool.Decides.{nat_tests}
use Rattle.std.proofs.lemmas.List.{length-drop, drop-append-le, drop-drop}
use Rattle.pp_law.specs.Asking.{asked_text, ask_next, is_being_asked, left_in, left_to_ask, body_heard, ask_body}
use Rattle.pp_law.specs.Connections.{exchange, is_exchange, is_outstanding, on_exchange}
use Rattle.pp_law.specs.Lists.{Bytes, change, first_some, has_number}
use Rattle.pp_law.specs.State.{State, Exchange, Conn}
use Rattle.pp_peers.specs.declared.peers.Peer.{Peer}
use Rattle.pp_peers_law.proofs.Finds.{alone_kept, find_elsewhere, find_there, found_number, no_or, other_way, same_number}
use Rattle.pp_peers_law.specs.Asked.{AreDistinct, AsksAreTheLaws, IsTextNext, LinesAreTheLaws}
use Rattle.pp_peers_law.specs.Peers.{has_alone, rests_of, ShowsAsk, ShowsLine, ShowsPipe}
use Rattle.pp_pipe.specs.Asks.{all_taken, ask_taken}
use Rattle.pp_pipe.specs.declared.asks.Ask.{Ask}

same_back : (d e n : ℕ) → (d == n) ≡ true → d ≡ e → (n == e) ≡ true
same_back d e n is same = grind (arith, nat_tests)

-- ---- the exchange that is asked next

abbrev asked_first : State → List ℕ → Option Exchange
asked_first s line = first_some (λ m. option_and_then left_in (exchange s m)) line

all_dropped : (text : Bytes) → drop (length text) text ≡ []
all_dropped [] = refl
all_dropped (b ∷ text) = all_dropped text

pub nothing_more : (n : ℕ) (text : Bytes) → (n == length text) ≡ true → drop n text ≡ []
nothing_more n text is = subst (λ (m : ℕ). drop m text ≡ []) (sym (same_number n (length text) is)) (all_dropped text)

is_idle : (a b : Bool) → not a || b ≡ false → a ≡ true
is_idle true b is = refl
is_idle false b is = let both : true ≡ false = is in cc both

-- the text that is asked next stands first
record IsFirstText (s : State) (line : List ℕ) (e : Exchange) : Type 0 where
  behind : Bytes
  texts : rests_of s line ≡ drop e.asked e.text ++ behind

first_text : (s : State) (line : List ℕ) (asks : List Ask) (e : Exchange) → ShowsLine s line asks → asked_first s line ≡ Some e → IsFirstText s line e
first_text s [] asks e shows next = absurd (cc next)
first_text s (n ∷ line) [] e shows next = absurd shows
first_text s (n ∷ line) (ask ∷ asks) e shows next = by shows.0.0 (is_being_asked shows.0.0) shows.0.1 refl (first_text s line asks e shows.1) (sym (ap (λ (o : Option Exchange). elim (option_and_then left_in o) as (λ x. Option Exchange) [ Some y ↦ Some y | None ↦ asked_first s line ]) shows.0.1) ∙ next)
  where
    rest : (d : Exchange) → exchange s n ≡ Some d → rests_of s (n ∷ line) ≡ drop d.asked d.text ++ rests_of s line
    rest d found = ap (λ (o : Option Exchange). (elim o as (λ x. Bytes) [ None ↦ [] | Some x ↦ drop x.asked x.text ]) ++ rests_of s line) found

    by : (d : Exchange) (t : Bool) → exchange s n ≡ Some d → is_being_asked d ≡ t → (asked_first s line ≡ Some e → IsFirstText s line e)
        → (elim (elim t as (λ x. Option Exchange) [ true ↦ Some d | false ↦ None ]) as (λ x. Option Exchange) [ Some y ↦ Some y | None ↦ asked_first s line ]) ≡ Some e → IsFirstText s (n ∷ line) e
    by d true found busy again next = record { behind = rests_of s line; texts = rest d found ∙ ap (λ (x : Exchange). drop x.asked x.text ++ rests_of s line) (let same : d ≡ e = cc next in same) }
    by d false found idle again next = record {
      behind = (again next).behind;
      texts = rest d found ∙ ap (λ (t : Bytes). t ++ rests_of s line) (nothing_more d.asked d.text (is_idle (is_outstanding d) (nat_lt 0 d.body_left) idle)) ∙ (again next).texts;
    }

next_in_line : (s : State) (k : Conn) (e : Exchange) → IsTextNext s k e → asked_first s k.line ≡ Some e
next_in_line s k e next = sym (ap (λ (o : Option Conn). elim o as (λ x. Option Exchange) [ None ↦ None | Some j ↦ asked_first s j.line ]) next.there) ∙ next.next

left_of_text : (s : State) (e : Exchange) → is_outstanding e ≡ false → left_to_ask s e ≡ drop e.asked e.text
left_of_text s e is = ap (λ (b : Bool). elim b as (λ x. Bytes) [ false ↦ drop e.asked e.text | true ↦ body_heard s e ]) is

front_of : (n : ℕ) (text behind : Bytes) → n ≡ length text → take n (text ++ behind) ≡ text
front_of n text behind is = subst (λ (m : ℕ). take m (text ++ behind) ≡ text) (sym is) (take-append_seam text behind)

pub lines : LinesAreTheLaws
lines s p k e shows is_open next =
    let pipe : ShowsPipe s p k = shows.pipe is_open in
    let first : IsFirstText s k.line e = first_text s k.line p.pipe.asks e pipe.line (next_in_line s k e next) in
    ap (λ (t : Bytes). take (length e.text - e.asked) t) (pipe.out ∙ first.texts)
    ∙ front_of (length e.text - e.asked) (drop e.asked e.text) first.behind (sym (length-drop e.asked e.text))
    ∙ sym (left_of_text s e next.of_text)

-- ---- bytes of the text were asked

abbrev after : State → Exchange → ℕ → State
after s e m = on_exchange e.number (asked_text m s.clock) s

there : (s : State) (e : Exchange) (m n : ℕ) (d : Exchange) → exchange s n ≡ Some d → e.number ≡ n → exchange (after s e m) n ≡ Some (asked_text m s.clock d)
unfolding on_exchange
there s e m n d found is =
    subst (λ (i : ℕ). find (is_exchange n) (change (is_exchange i) (asked_text m s.clock) s.exchanges) ≡ Some (asked_text m s.clock d)) (sym is)
    (find_there n (asked_text m s.clock) (λ x. refl) s.exchanges d found)

elsewhere : (s : State) (e : Exchange) (m n : ℕ) → (e.number == n) ≡ false → exchange (after s e m) n ≡ exchange s n
unfolding on_exchange
elsewhere s e m n isnt = find_elsewhere e.number n (asked_text m s.clock) (λ x. refl) isnt s.exchanges

alone_after : (s : State) (e : Exchange) (m : ℕ) (line : List ℕ) → has_alone (after s e m) line ≡ has_alone s line
unfolding on_exchange
alone_after s e m [] = refl
alone_after s e m (n ∷ line) = ap₂ (λ (a b : Bool). a || b) (alone_kept e.number n (asked_text m s.clock) (λ x. refl) (λ x. refl) s.exchanges) (alone_after s e m line)

-- ---- the asks of the pipe

no_bytes : (b : Bool) (k : ℕ) → k ≡ 0 → b || nat_lt 0 k ≡ b
no_bytes true k is = refl
no_bytes false k is = grind (arith, nat_tests)

none_of : (m text : ℕ) → (m ≡ 0) ⊎ (text ≡ 0) → min m text ≡ 0
none_of m text (inl is) = grind (arith)
none_of m text (inr is) = grind (arith)

no_less : (asked m text len : ℕ) → asked + text ≡ len → (m ≡ 0) ⊎ (text ≡ 0) → asked + (text - m) ≡ len
no_less asked m text len is (inl none) = grind (arith)
no_less asked m text len is (inr none) = grind (arith)

-- of an ask of which nothing was left, and of one where nothing was asked
kept_ask : (m : ℕ) (ask : Ask) (d : Exchange) → ShowsAsk ask d → (m ≡ 0) ⊎ (ask.text_left ≡ 0) → ShowsAsk (ask_taken m ask) d
kept_ask m ask d shows none = record {
  to_head = shows.to_head;
  is_begun = no_bytes ask.is_begun (min m ask.text_left) (none_of m ask.text_left none) ∙ shows.is_begun;
  text = no_less d.asked m ask.text_left (length d.text) shows.text none;
}

all_of : (m asked text len : ℕ) → asked + text ≡ len → m ≤ len - asked → min m text ≡ m
all_of m asked text len is few = grind (arith)

begun_by : (asked m : ℕ) → nat_lt 0 asked || nat_lt 0 m ≡ nat_lt 0 (asked + m)
begun_by asked m = by (nat_lt 0 asked) (nat_lt 0 m) (nat_lt 0 (asked + m)) refl refl refl
  where
    by : (a b c : Bool) → nat_lt 0 asked ≡ a → nat_lt 0 m ≡ b → nat_lt 0 (asked + m) ≡ c → a || b ≡ c
    by true b true x y z = refl
    by true b false x y z = absurd (grind (arith, nat_tests))
    by false true true x y z = refl
    by false true false x y z = absurd (grind (arith, nat_tests))
    by false false true x y z = absurd (grind (arith, nat_tests))
    by false false false x y z = refl

more_asked : (m asked text len : ℕ) → asked + text ≡ len → m ≤ len - asked → (asked + m) + (text - m) ≡ len
more_asked m asked text len is few = grind (arith)

asked_ask : (m now : ℕ) (ask : Ask) (d : Exchange) → ShowsAsk ask d → m ≤ length d.text - d.asked → ShowsAsk (ask_taken m ask) (asked_text m now d)
asked_ask m now ask d shows few = record {
  to_head = shows.to_head;
  is_begun =
      ap₂ (λ (a : Bool) (n : ℕ). a || nat_lt 0 n) shows.is_begun (all_of m d.asked ask.text_left (length d.text) shows.text few)
      ∙ begun_by d.asked m;
  text = more_asked m d.asked ask.text_left (length d.text) shows.text few;
}

-- ---- the line

nothing_less : (n : ℕ) → 0 - n ≡ 0
nothing_less n = grind (arith)

none_more : (m asked text len : ℕ) → asked + text ≡ len → m ≤ len - asked → m - text ≡ 0
none_more m asked text len is few = grind (arith)

all_more : (m asked text len : ℕ) → asked + text ≡ len → (asked == len) ≡ true → m - text ≡ m
all_more m asked text len is whole = grind (arith, nat_tests)

pub no_text : (asked text len : ℕ) → asked + text ≡ len → (asked == len) ≡ true → text ≡ 0
no_text asked text len is whole = grind (arith, nat_tests)

-- of which none is the one that is asked
untouched : (s : State) (e : Exchange) (m : ℕ) (line : List ℕ) (asks : List Ask) → ShowsLine s line asks → has_number e.number line ≡ false → ShowsLine (after s e m) line (all_taken 0 asks)
untouched s e m [] [] shows none = tt
untouched s e m [] (ask ∷ asks) shows none = absurd shows
untouched s e m (n ∷ line) [] shows none = absurd shows
untouched s e m (n ∷ line) (ask ∷ asks) shows none =
    let these : ((n == e.number) ≡ false) × (has_number e.number line ≡ false) = no_or (n == e.number) (has_number e.number line) none in (
      (shows.0.0, elsewhere s e m n (other_way n e.number these.0) ∙ shows.0.1, kept_ask 0 ask shows.0.0 shows.0.2 (inl refl)),
      subst (λ (i : ℕ). ShowsLine (after s e m) line (all_taken i asks)) (sym (nothing_less ask.text_left)) (untouched s e m line asks shows.1 these.1),
    )

texts_kept : (s : State) (e : Exchange) (m : ℕ) (line : List ℕ) → has_number e.number line ≡ false → rests_of (after s e m) line ≡ rests_of s line
texts_kept s e m [] none = refl
texts_kept s e m (n ∷ line) none =
    let these : ((n == e.number) ≡ false) × (has_number e.number line ≡ false) = no_or (n == e.number) (has_number e.number line) none in
    ap₂ (λ (o : Option Exchange) (t : Bytes). (elim o as (λ x. Bytes) [ None ↦ [] | Some x ↦ drop x.asked x.text ]) ++ t) (elsewhere s e m n (other_way n e.number these.0)) (texts_kept s e m line these.1)

-- it stands in the line
asked_in_line : (s : State) (line : List ℕ) (asks : List Ask) (e : Exchange) → ShowsLine s line asks → asked_first s line ≡ Some e → has_number e.number line ≡ true
asked_in_line s [] asks e shows next = absurd (cc next)
asked_in_line s (n ∷ line) [] e shows next = absurd shows
asked_in_line s (n ∷ line) (ask ∷ asks) e shows next = by shows.0.0 (is_being_asked shows.0.0) shows.0.1 (asked_in_line s line asks e shows.1) (sym (ap (λ (o : Option Exchange). elim (option_and_then left_in o) as (λ x. Option Exchange) [ Some y ↦ Some y | None ↦ asked_first s line ]) shows.0.1) ∙ next)
  where
    or_true : (a : Bool) → a || true ≡ true
    or_true true = refl
    or_true false = refl

    by : (d : Exchange) (t : Bool) → exchange s n ≡ Some d → (asked_first s line ≡ Some e → has_number e.number line ≡ true)
        → (elim (elim t as (λ x. Option Exchange) [ true ↦ Some d | false ↦ None ]) as (λ x. Option Exchange) [ Some y ↦ Some y | None ↦ asked_first s line ]) ≡ Some e → (n == e.number) || has_number e.number line ≡ true
    by d true found again next =
        let same : d ≡ e = cc next in
        let is : (n == e.number) ≡ true = same_back d.number e.number n (found_number n s.exchanges d found) (ap (λ (x : Exchange). x.number) same) in
        ap (λ (b : Bool). b || has_number e.number line) is
    by d false found again next = ap (λ (b : Bool). (n == e.number) || b) (again next) ∙ or_true (n == e.number)

pub apart : (s : State) (n m : ℕ) (line : List ℕ) → has_number n line ≡ false → has_number m line ≡ true → (m == n) ≡ false
apart s n m line none some = by (m == n) refl
  where
    by : (t : Bool) → (m == n) ≡ t → t ≡ false
    by true is = let both : true ≡ false = sym some ∙ ap (λ (i : ℕ). has_number i line) (same_number m n is) ∙ none in both
    by false is = refl

line_after : (s : State) (e : Exchange) (m : ℕ) (line : List ℕ) (asks : List Ask) → ShowsLine s line asks → AreDistinct line → asked_first s line ≡ Some e → m ≤ length e.text - e.asked → ShowsLine (after s e m) line (all_taken m asks)
line_after s e m [] asks shows once next few = absurd (cc next)
line_after s e m (n ∷ line) [] shows once next few = absurd shows
line_after s e m (n ∷ line) (ask ∷ asks) shows once next few =
    by shows.0.0 (is_being_asked shows.0.0) shows.0.1 refl shows.0.2 (line_after s e m line asks shows.1 once.1) (sym (ap (λ (o : Option Exchange). elim (option_and_then left_in o) as (λ x. Option Exchange) [ Some y ↦ Some y | None ↦ asked_first s line ]) shows.0.1) ∙ next)
  where
    Goal : Type 0
    Goal = ((d : Exchange) × (exchange (after s e m) n ≡ Some d) × ShowsAsk (ask_taken m ask) d) × ShowsLine (after s e m) line (all_taken (m - ask.text_left) asks)

    by : (d : Exchange) (t : Bool) → exchange s n ≡ Some d → is_being_asked d ≡ t → ShowsAsk ask d → (asked_first s line ≡ Some e → m ≤ length e.text - e.asked → ShowsLine (after s e m) line (all_taken m asks))
        → (elim (elim t as (λ x. Option Exchange) [ true ↦ Some d | false ↦ None ]) as (λ x. Option Exchange) [ Some y ↦ Some y | None ↦ asked_first s line ]) ≡ Some e → Goal
    by d true found busy shown again next =
        let same : d ≡ e = cc next in
        let number : e.number ≡ n = ap (λ (x : Exchange). x.number) (sym same) ∙ same_number d.number n (found_number n s.exchanges d found) in
        let fewer : m ≤ length d.text - d.asked = subst (λ (x : Exchange). m ≤ length x.text - x.asked) (sym same) few in
        let gone : has_number e.number line ≡ false = subst (λ (i : ℕ). has_number i line ≡ false) (sym number) once.0 in (
          (asked_text m s.clock d, there s e m n d found number, asked_ask m s.clock ask d shown fewer),
          subst (λ (i : ℕ). ShowsLine (after s e m) line (all_taken i asks)) (sym (none_more m d.asked ask.text_left (length d.text) shown.text fewer)) (untouched s e m line asks shows.1 gone),
        )
    by d false found idle shown again next =
        let whole : is_outstanding d ≡ true = is_idle (is_outstanding d) (nat_lt 0 d.body_left) idle in
        let isnt : (e.number == n) ≡ false = apart s n e.number line once.0 (asked_in_line s line asks e shows.1 next) in (
          (d, elsewhere s e m n isnt ∙ found, kept_ask m ask d shown (inr (no_text d.asked ask.text_left (length d.text) shown.text whole))),
          subst (λ (i : ℕ). ShowsLine (after s e m) line (all_taken i asks)) (sym (all_more m d.asked ask.text_left (length d.text) shown.text whole)) (again next few),
        )

-- what is left of it
abbrev pub rest_in : Option Exchange → Bytes
rest_in o = elim o as (λ x. Bytes) [ None ↦ [] | Some x ↦ drop x.asked x.text ]

few_left : (m : ℕ) (e : Exchange) → m ≤ length e.text - e.asked → m ≤ length (drop e.asked e.text)
few_left m e few = subst (λ (n : ℕ). m ≤ n) (sym (length-drop e.asked e.text)) few

texts_after : (s : State) (e : Exchange) (m : ℕ) (line : List ℕ) (asks : List Ask) → ShowsLine s line asks → AreDistinct line → asked_first s line ≡ Some e → m ≤ length e.text - e.asked → rests_of (after s e m) line ≡ drop m (rests_of s line)
texts_after s e m [] asks shows once next few = absurd (cc next)
texts_after s e m (n ∷ line) [] shows once next few = absurd shows
texts_after s e m (n ∷ line) (ask ∷ asks) shows once next few =
    by shows.0.0 (is_being_asked shows.0.0) shows.0.1 refl (texts_after s e m line asks shows.1 once.1) (sym (ap (λ (o : Option Exchange). elim (option_and_then left_in o) as (λ x. Option Exchange) [ Some y ↦ Some y | None ↦ asked_first s line ]) shows.0.1) ∙ next)
  where
    by : (d : Exchange) (t : Bool) → exchange s n ≡ Some d → is_being_asked d ≡ t → (asked_first s line ≡ Some e → m ≤ length e.text - e.asked → rests_of (after s e m) line ≡ drop m (rests_of s line))
        → (elim (elim t as (λ x. Option Exchange) [ true ↦ Some d | false ↦ None ]) as (λ x. Option Exchange) [ Some y ↦ Some y | None ↦ asked_first s line ]) ≡ Some e
        → rest_in (exchange (after s e m) n) ++ rests_of (after s e m) line ≡ drop m (rest_in (exchange s n) ++ rests_of s line)
    by d true found busy again next =
        let same : d ≡ e = cc next in
        let number : e.number ≡ n = ap (λ (x : Exchange). x.number) (sym same) ∙ same_number d.number n (found_number n s.exchanges d found) in
        let fewer : m ≤ length d.text - d.asked = subst (λ (x : Exchange). m ≤ length x.text - x.asked) (sym same) few in
        let gone : has_number e.number line ≡ false = subst (λ (i : ℕ). has_number i line ≡ false) (sym number) once.0 in
        ap₂ (λ (o : Option Exchange) (t : Bytes). rest_in o ++ t) (there s e m n d found number) (texts_kept s e m line gone)
        ∙ ap (λ (t : Bytes). t ++ rests_of s line) (sym (drop-drop m d.asked d.text))
        ∙ sym (drop-append-le m (drop d.asked d.text) (rests_of s line) (few_left m d fewer))
        ∙ sym (ap (λ (o : Option Exchange). drop m (rest_in o ++ rests_of s line)) found)
    by d false found idle again next =
        let whole : is_outstanding d ≡ true = is_idle (is_outstanding d) (nat_lt 0 d.body_left) idle in
        let isnt : (e.number == n) ≡ false = apart s n e.number line once.0 (asked_in_line s line asks e shows.1 next) in
        let empty : rest_in (exchange s n) ≡ [] = ap rest_in found ∙ nothing_more d.asked d.text whole in
        ap₂ (λ (o : Option Exchange) (t : Bytes). rest_in o ++ t) (elsewhere s e m n isnt) (again next few)
        ∙ ap (λ (t : Bytes). t ++ drop m (rests_of s line)) empty
        ∙ sym (ap (λ (t : Bytes). drop m (t ++ rests_of s line)) empty)

-- ---- the pipe

none_stray : (stray m : ℕ) → stray ≡ 0 → stray - m ≡ 0
none_stray stray m is = grind (arith)

no_stray : (stray m : ℕ) → stray ≡ 0 → m - stray ≡ m
no_stray stray m is = grind (arith)

asked : (s : State) (p : Peer) (k : Conn) (e : Exchange) (m : ℕ) → ShowsPipe s p k → AreDistinct k.line → asked_first s k.line ≡ Some e → m ≤ length e.text - e.asked
    → ShowsPipe (after s e m) (record p { pipe = record p.pipe { out = drop m p.pipe.out; stray = p.pipe.stray - m; asks = all_taken (m - p.pipe.stray) p.pipe.asks } }) k
asked s p k e m pipe once next few = record {
  line = subst (λ (i : ℕ). ShowsLine (after s e m) k.line (all_taken i p.pipe.asks)) (sym (no_stray p.pipe.stray m pipe.stray)) (line_after s e m k.line p.pipe.asks pipe.line once next few);
  stray = none_stray p.pipe.stray m pipe.stray;
  out = ap (λ (t : Bytes). drop m t) pipe.out ∙ sym (texts_after s e m k.line p.pipe.asks pipe.line once next few);
  reading = pipe.reading;
  none_alone = λ may. alone_after s e m k.line ∙ pipe.none_alone may;
}

next_text : (s : State) (e : Exchange) (m : ℕ) → is_outstanding e ≡ false → ask_next e m s ≡ after s e m
unfolding ask_next
next_text s e m is = ap (λ (b : Bool). elim b as (λ x. State) [ false ↦ on_exchange e.number (asked_text m s.clock) s | true ↦ ask_body e m s ]) is

pub asks : AsksAreTheLaws
asks s p k e m shows is_open next once few =
    let fewer : m ≤ length e.text - e.asked = subst (λ (n : ℕ). m ≤ n) (ap length (left_of_text s e next.of_text) ∙ length-drop e.asked e.text) few in
    subst (λ (t : State). ShowsPipe t (record p { pipe = record p.pipe { out = drop m p.pipe.out; stray = p.pipe.stray - m; asks = all_taken (m - p.pipe.stray) p.pipe.asks } }) k) (sym (next_text s e m next.of_text))
    (asked s p k e m (shows.pipe is_open) once (next_in_line s k e next) fewer)
