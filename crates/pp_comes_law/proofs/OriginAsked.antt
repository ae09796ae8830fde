-- What is left to ask on a connection is the same before a wait and behind it; and where something of its line is, it is asked of the first of
-- which anything is left.
use Rattle.std.proofs.Common.{◌≡◌, ◌≤◌, ◌<◌, refl, sym, ap, ◌∙◌, ℕ, zero, suc, ◌+◌, Bool, true, false, ◌==◌, ◌||◌, not, nat_lt, min, take, drop, length, List, [], ◌∷◌, map, find, Option, Some, None, option_map, inl, inr, arith}
use Rattle.std.proofs.Math.Nat.{min-le_left}
use Rattle.std.proofs.lemmas.Bool.Decides.{nat_tests}
use Rattle.std.specs.List.{list_any}
use Rattle.std.specs.Option.{option_and_then}
use Rattle.pp_cache_law.proofs.Finds.{find_mapped}
use Rattle.pp_comes_law.proofs.OriginThere.{first_off, second_off}
use Rattle.pp_law.specs.Asking.{body_heard, is_being_asked, left_in, left_to_ask}
use Rattle.pp_law.specs.Connections.{exchange, is_exchange, is_for, is_outstanding}
use Rattle.pp_law.specs.Lists.{Bytes, first_some, is_some_with, is_this}
use Rattle.pp_law.specs.Served.{has_to_ask}
use Rattle.pp_law.specs.Stages.{bound_of}
use Rattle.pp_law.specs.State.{State, Bound, Client, Conn, Exchange, Joining}
use Rattle.pp_law.specs.Turn.{rest_with, rested_client, rested_conn}
use Rattle.pp_law.specs.Unseen.{rested_exchange, wanted_to}
use Rattle.pp_laws.specs.Runs.{IsIn}
use Rattle.pp_peers_law.specs.Peers.{ShowsAsk, ShowsLine}
use Rattle.pp_pipe.specs.declared.asks.Ask.{Ask}
use Rattle.pp_text.specs.Bytes.{is_empty}
use Rattle.pp_world.specs.declared.event.Wants.{Wants}

-- ---- it is the same behind a wait

left_by : List Client → ℕ → Bytes → Option ℕ → ℕ → Bytes
left_by cs asked text asker left = elim (asked == length text) [ false ↦ drop asked text | true ↦ elim (find (λ (c : Client). is_this c.number asker) cs) [ None ↦ [] | Some c ↦ take (min left c.body_left) c.heard ] ]

rested_heard : (u : State) (asked : ℕ) (text : Bytes) (asker : Option ℕ) (left : ℕ) (cs : List Client) → left_by (map (rested_client u) cs) asked text asker left ≡ left_by cs asked text asker left
unfolding left_by
rested_heard u asked text asker left cs =
    ap (λ (o : Option Client). elim (asked == length text) as (λ t. Bytes) [ false ↦ drop asked text | true ↦ elim o as (λ t. Bytes) [ None ↦ [] | Some c ↦ take (min left c.body_left) c.heard ] ]) (find_mapped (λ (c : Client). is_this c.number asker) (rested_client u) cs (λ c. refl))
    ∙ by (asked == length text) (find (λ (c : Client). is_this c.number asker) cs)
  where
    by : (t : Bool) (o : Option Client) → (elim t as (λ t. Bytes) [ false ↦ drop asked text | true ↦ elim (option_map (rested_client u) o) as (λ t. Bytes) [ None ↦ [] | Some c ↦ take (min left c.body_left) c.heard ] ])
        ≡ (elim t as (λ t. Bytes) [ false ↦ drop asked text | true ↦ elim o as (λ t. Bytes) [ None ↦ [] | Some c ↦ take (min left c.body_left) c.heard ] ])
    by false o = refl
    by true None = refl
    by true (Some c) = refl

rested_left : (w : Wants) (u : State) (e : Exchange) → left_to_ask (rest_with w u) (rested_exchange u e) ≡ left_to_ask u e
unfolding rest_with left_by
rested_left w u e = by (bound_of e) ∙ rested_heard u e.asked e.text e.asker e.body_left u.clients
  where
    by : (o : Option Bound) → left_to_ask (rest_with w u) (elim o as (λ t. Exchange) [ None ↦ e | Some b ↦ record e { body = Joining (wanted_to u b) } ]) ≡ left_by (map (rested_client u) u.clients) e.asked e.text e.asker e.body_left
    by None = refl
    by (Some b) = refl

pub rested_number : (u : State) (e : Exchange) → (rested_exchange u e).number ≡ e.number
rested_number u e = by (bound_of e)
  where
    by : (o : Option Bound) → (let d : Exchange = elim o as (λ t. Exchange) [ None ↦ e | Some b ↦ record e { body = Joining (wanted_to u b) } ] in d.number) ≡ e.number
    by None = refl
    by (Some b) = refl

abbrev some_left : State → ℕ → Bool
some_left s n = is_some_with (λ e. not (is_empty (left_to_ask s e))) (exchange s n)

rested_some : (w : Wants) (u : State) (n : ℕ) → some_left (rest_with w u) n ≡ some_left u n
unfolding rest_with
rested_some w u n =
    ap (is_some_with (λ e. not (is_empty (left_to_ask (rest_with w u) e)))) (find_mapped (is_exchange n) (rested_exchange u) u.exchanges (λ e. ap (λ m. m == n) (rested_number u e))) ∙ by (exchange u n)
  where
    by : (o : Option Exchange) → is_some_with (λ e. not (is_empty (left_to_ask (rest_with w u) e))) (option_map (rested_exchange u) o) ≡ is_some_with (λ e. not (is_empty (left_to_ask u e))) o
    by None = refl
    by (Some e) = ap (λ (left : Bytes). not (is_empty left)) (rested_left w u e)

any_as : (p q : ℕ → Bool) (ns : List ℕ) → ((n : ℕ) → p n ≡ q n) → list_any p ns ≡ list_any q ns
any_as p q [] same = refl
any_as p q (n ∷ ns) same = ap (λ (b : Bool). b || list_any p ns) (same n) ∙ ap (λ (b : Bool). q n || b) (any_as p q ns same)

pub rested_asks : (w : Wants) (u : State) (j : Conn) → has_to_ask (rest_with w u) (rested_conn u w j) ≡ has_to_ask u j
rested_asks w u j = any_as (some_left (rest_with w u)) (some_left u) j.line (λ n. rested_some w u n)

-- ---- the first of which anything is left

-- one with a body is alone
abbrev pub IsAloneIn : State → List ℕ → Type 0
IsAloneIn s line = (m : ℕ) (e : Exchange) → IsIn m line → exchange s m ≡ Some e → (e.body_left == 0) ≡ false → length line ≤ 1

pub record IsAskedFirst (s : State) (line : List ℕ) : Type 0 where
  pub asked : Exchange
  pub number : ℕ
  pub there : exchange s number ≡ Some asked
  pub first : first_some (λ m. option_and_then left_in (exchange s m)) line ≡ Some asked
  pub some : is_empty (left_to_ask s asked) ≡ false

drop_some : (n : ℕ) (text : Bytes) → n < length text → is_empty (drop n text) ≡ false
drop_some zero [] less = absurd (omega (arith, less))
drop_some zero (b ∷ text) less = refl
drop_some (suc n) [] less = absurd (omega (arith, less))
drop_some (suc n) (b ∷ text) less = drop_some n text (omega (arith, less))

below_by : (a left n : ℕ) → a + left ≡ n → (a == n) ≡ false → a < n
below_by a left n sum isnt = grind (arith, nat_tests)

some_body : (n : ℕ) → nat_lt 0 n ≡ true → (n == 0) ≡ false
some_body n is = grind (arith, nat_tests)

no_body : (n : ℕ) → nat_lt 0 n ≡ false → n ≡ 0
no_body n is = grind (arith, nat_tests)

not_off : (b : Bool) → not b ≡ true → b ≡ false
not_off true is = absurd (cc is)
not_off false is = refl

not_on : (b : Bool) → not b ≡ false → b ≡ true
not_on true is = refl
not_on false is = absurd (cc is)

alone_true : (b : Bool) → (b || false) ≡ true → b ≡ true
alone_true true is = refl
alone_true false is = absurd (cc is)

none_rest : (n : ℕ) (rest : List ℕ) → length (n ∷ rest) ≤ 1 → rest ≡ []
none_rest n [] few = refl
none_rest n (m ∷ rest) few = absurd (omega (arith, few))

none_heard : (s : State) (e : Exchange) → e.body_left ≡ 0 → is_empty (body_heard s e) ≡ true
none_heard s e none = by (find (is_for e) s.clients)
  where
    by : (o : Option Client) → is_empty (elim o as (λ t. Bytes) [ None ↦ [] | Some c ↦ take (min e.body_left c.body_left) c.heard ]) ≡ true
    by None = refl
    by (Some c) = let few : min e.body_left c.body_left ≤ e.body_left = min-le_left e.body_left c.body_left in ap (λ (n : ℕ). is_empty (take n c.heard)) (no_more (min e.body_left c.body_left) few)
      where
        no_more : (m : ℕ) → m ≤ e.body_left → m ≡ 0
        no_more m few = omega (arith, few, none)

-- of one that is asked something is left: of its text; or it stands alone, so that what is left is of its body
left_of : (s : State) (n : ℕ) (rest : List ℕ) (ask : Ask) (e : Exchange) → exchange s n ≡ Some e → ShowsAsk ask e → IsAloneIn s (n ∷ rest) → is_being_asked e ≡ true → list_any (some_left s) (n ∷ rest) ≡ true → is_empty (left_to_ask s e) ≡ false
left_of s n rest ask e there shows alone being any = by (is_outstanding e) refl
  where
    by : (t : Bool) → is_outstanding e ≡ t → is_empty (left_to_ask s e) ≡ false
    by false is = ap (λ (t : Bool). is_empty (elim t as (λ t. Bytes) [ false ↦ drop e.asked e.text | true ↦ body_heard s e ])) is ∙ drop_some e.asked e.text (below_by e.asked ask.text_left (length e.text) shows.text is)
    by true is = not_off (is_empty (left_to_ask s e)) (sym (ap (is_some_with (λ d. not (is_empty (left_to_ask s d)))) there) ∙ alone_true (some_left s n) (sym (ap (λ (ns : List ℕ). some_left s n || list_any (some_left s) ns) (none_rest n rest few)) ∙ any))
      where
        body : nat_lt 0 e.body_left ≡ true
        body = sym (ap (λ (t : Bool). not t || nat_lt 0 e.body_left) is) ∙ being

        few : length (n ∷ rest) ≤ 1
        few = alone n e (inl refl) there (some_body e.body_left body)

-- and of one that is not, nothing
none_left : (s : State) (n : ℕ) (e : Exchange) → exchange s n ≡ Some e → is_being_asked e ≡ false → some_left s n ≡ false
none_left s n e there isnt =
    ap (is_some_with (λ d. not (is_empty (left_to_ask s d)))) there
    ∙ ap (λ (t : Bool). not (is_empty (elim t as (λ t. Bytes) [ false ↦ drop e.asked e.text | true ↦ body_heard s e ]))) (not_on (is_outstanding e) (first_off (not (is_outstanding e)) (nat_lt 0 e.body_left) isnt))
    ∙ ap (λ (t : Bool). not t) (none_heard s e (no_body e.body_left (second_off (not (is_outstanding e)) (nat_lt 0 e.body_left) isnt)))

pub asked_first : (s : State) (line : List ℕ) (asks : List Ask) → ShowsLine s line asks → IsAloneIn s line → list_any (some_left s) line ≡ true → IsAskedFirst s line
asked_first s [] asks shows alone any = absurd (cc any)
asked_first s (n ∷ rest) [] shows alone any = absurd shows
asked_first s (n ∷ rest) (ask ∷ asks) shows alone any = by (is_being_asked e) refl (λ more. asked_first s rest asks shows.1 (λ m d i there body. let few : length (n ∷ rest) ≤ 1 = alone m d (inr i) there body in omega (arith, few)) more)
  where
    e : Exchange
    e = shows.0.0

    there : exchange s n ≡ Some e
    there = shows.0.1

    next : option_and_then left_in (exchange s n) ≡ left_in e
    next = ap (option_and_then left_in) there

    goes : (t : Bool) → is_being_asked e ≡ t → first_some (λ m. option_and_then left_in (exchange s m)) (n ∷ rest) ≡ (elim (elim t as (λ t. Option Exchange) [ true ↦ Some e | false ↦ None ]) as (λ t. Option Exchange) [ Some d ↦ Some d | None ↦ first_some (λ m. option_and_then left_in (exchange s m)) rest ])
    goes t is = ap (λ (o : Option Exchange). elim o as (λ t. Option Exchange) [ Some d ↦ Some d | None ↦ first_some (λ m. option_and_then left_in (exchange s m)) rest ]) (next ∙ ap (λ (t : Bool). elim t as (λ t. Option Exchange) [ true ↦ Some e | false ↦ None ]) is)

    by : (t : Bool) → is_being_asked e ≡ t → (list_any (some_left s) rest ≡ true → IsAskedFirst s rest) → IsAskedFirst s (n ∷ rest)
    by true is more = record { asked = e; number = n; there = there; first = goes true is; some = left_of s n rest ask e there shows.0.2 alone is any }
    by false is more =
        let then : IsAskedFirst s rest = more (sym (ap (λ (b : Bool). b || list_any (some_left s) rest) (none_left s n e there is)) ∙ any) in
        record { asked = then.asked; number = then.number; there = then.there; first = goes false is ∙ then.first; some = then.some }
