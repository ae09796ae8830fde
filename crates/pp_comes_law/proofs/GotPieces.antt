-- What the law gets of one read, piece by piece: as long as of each head more is to come, and each body that was begun goes on, each piece takes a
-- byte at least.
use Rattle.std.proofs.Common.{◌≡◌, ◌≤◌, ◌<◌, ◌⊎◌, refl, sym, subst, ap, ◌∙◌, ℕ, zero, suc, ◌+◌, ◌*◌, Bool, true, false, ◌||◌, drop, length, length-append, length-drop, [], ◌∷◌, ◌++◌, find, Option, Some, None, inl, inr, le_refl, arith}
use Rattle.pp_framing.specs.Body.{Outcome, Done, Going, Bad}
use Rattle.pp_framing.specs.Rules.{body_of}
use Rattle.pp_head.specs.Read.{Read, Whole, TooLong, Bad as NoHead, More}
use Rattle.pp_head.specs.Response.{Response, response_at}
use Rattle.pp_law.specs.Connections.{close_conn, conn, front_of_line, is_conn, on_conn}
use Rattle.pp_law.specs.Lists.{Bytes}
use Rattle.pp_law.specs.Responses.{Piece, bad_head, bad_response, body_piece, body_piece_of, deliver, finish, got, head_came, head_piece, head_piece_of, is_early, next_piece, payload_of, with_unread}
use Rattle.pp_law.specs.State.{State, Answer, Conn, Exchange}
use Rattle.pp_laws.proofs.Lists.{in_find}
use Rattle.pp_laws.specs.Runs.{IsIn}
use Rattle.pp_laws_pool.proofs.PoolFacts.{As, GoesOn, Pool}
use Rattle.pp_laws_pool.proofs.PoolGot.{got-pool, head_beyond, paired, same_first, same_second}
use Rattle.pp_laws_pool.proofs.View.{Holds, facts_of, holds}
use Rattle.pp_pipe.specs.Front.{is_interim}
use Rattle.pp_text.specs.Bytes.{is_empty}
use Rattle.pp_comes_law.proofs.BodyLess.{body_less}

-- ---- of each head more is to come, and each body goes on

pub record Comes (s : State) : Type 0 where
  pub as_is : As
  pub none : as_is.but ≡ None
  pub held : Holds (Pool as_is) s

pub unread_of : (s : State) → Comes s → (k : Conn) → IsIn k s.conns → response_at k.unread ≡ More
unread_of s c k i = (facts_of c.held).unread k i

pub going_of : (s : State) → Comes s → (k : Conn) (a : Answer) → IsIn k s.conns → k.answer ≡ Some a → GoesOn a
going_of s c k a i is = by ((facts_of c.held).going k a i is)
  where
    none_some : {x : ℕ × Answer} → None ≡ Some x → ⊥
    none_some both = cc both

    by : GoesOn a ⊎ (c.as_is.but ≡ Some (k.number, a)) → GoesOn a
    by (inl on) = on
    by (inr but) = absurd (none_some (sym c.none ∙ but))

line_long : Option Conn → ℕ
line_long None = 0
line_long (Some k) = length k.line

-- it stays so, however much is read
pub got_comes : (more n : ℕ) (bytes : Bytes) (s : State) → Comes s → Comes (got more n bytes s)
unfolding line_long
got_comes more n bytes s c = record {
  as_is = record { settings = c.as_is.settings; phase = c.as_is.phase; owed = c.as_is.owed; most = critical; but = None; line = None };
  none = refl;
  held = got-pool c.as_is n critical more bytes asks c.as_is.most s (fits c.as_is.most (length bytes) asks) (holds (record {
    set = (facts_of c.held).set;
    at = (facts_of c.held).at;
    owes = (facts_of c.held).owes;
    few = (facts_of c.held).few;
    apart = (facts_of c.held).apart;
    near = (facts_of c.held).near;
    going = λ k x i is. inl (going_of s c k x i is);
    unread = (facts_of c.held).unread;
    lined = lined;
  }));
}
  where
    asks : ℕ
    asks = line_long (conn s n)

    critical : ℕ
    critical = c.as_is.most + length bytes + asks + asks

    fits : (most long line : ℕ) → 4096 * most + long + 8192 * line ≤ 4096 * (most + long + line + line)
    fits most long line = omega arith

    lined : (m most : ℕ) (k : Conn) → paired n asks ≡ paired m most → find (is_conn m) s.conns ≡ Some k → length k.line ≤ most
    lined m most k is found =
        subst (λ (l : ℕ). length k.line ≤ l) (sym (ap (λ (o : Option Conn). line_long o) (ap (λ (i : ℕ). conn s i) (same_first is) ∙ found)) ∙ same_second is) (le_refl (length k.line))

-- ---- each piece takes a byte at least

text_less : (k : Conn) (b : ℕ) (bytes : Bytes) (s : State) → response_at k.unread ≡ More → length (head_piece_of k (k.unread ++ b ∷ bytes) s).rest < length (b ∷ bytes)
text_less k b bytes s more = by (response_at (k.unread ++ b ∷ bytes)) refl
  where
    text : Bytes
    text = k.unread ++ b ∷ bytes

    none : 0 < length (b ∷ bytes)
    none = omega arith

    drops : (head : Response) → response_at text ≡ Whole head → length (drop head.length text) < length (b ∷ bytes)
    drops head whole = let beyond : length k.unread < head.length = head_beyond k.unread (b ∷ bytes) head more whole in omega (arith, beyond, length-drop head.length text, length-append k.unread (b ∷ bytes))

    at : (head : Response) (w : Bool) → response_at text ≡ Whole head → (let p : Piece = elim w as (λ c. Piece) [ true ↦ record { state = on_conn k.number (with_unread []) s; rest = drop head.length text } | false ↦ record { state = head_came k head s; rest = drop head.length text } ] in length p.rest < length (b ∷ bytes))
    at head true whole = drops head whole
    at head false whole = drops head whole

    by : (v : Read Response) → response_at text ≡ v
        → (let p : Piece = elim v as (λ c. Piece) [
          | More ↦ record { state = on_conn k.number (with_unread text) s; rest = [] }
          | TooLong ↦ record { state = bad_head k s; rest = [] }
          | NoHead ↦ record { state = bad_head k s; rest = [] }
          | Whole head ↦ elim (is_interim head.status) as (λ c. Piece) [ true ↦ record { state = on_conn k.number (with_unread []) s; rest = drop head.length text } | false ↦ record { state = head_came k head s; rest = drop head.length text } ]
        ] in length p.rest < length (b ∷ bytes))
    by More is = none
    by TooLong is = none
    by NoHead is = none
    by (Whole head) is = at head (is_interim head.status) is

head_less : (k : Conn) (b : ℕ) (bytes : Bytes) (s : State) → response_at k.unread ≡ More → length (head_piece k (b ∷ bytes) s).rest < length (b ∷ bytes)
head_less k b bytes s more = by (is_early s k)
  where
    by : (c : Bool) → (let p : Piece = elim c as (λ t. Piece) [ true ↦ record { state = close_conn true k s; rest = [] } | false ↦ head_piece_of k (k.unread ++ b ∷ bytes) s ] in length p.rest < length (b ∷ bytes))
    by true = omega arith
    by false = text_less k b bytes s more

pub body_fewer : (k : Conn) (a : Answer) (b : ℕ) (bytes : Bytes) (s : State) → GoesOn a → length (body_piece k a (b ∷ bytes) s).rest < length (b ∷ bytes)
body_fewer k a b bytes s going = by (front_of_line s k)
  where
    none : 0 < length (b ∷ bytes)
    none = omega arith

    at : (e : Exchange) (t : State) (o : Outcome) → (body_of a.rule (a.raw ++ b ∷ bytes)).outcome ≡ o
        → (let p : Piece = elim o as (λ c. Piece) [
          | Going ↦ record { state = on_conn k.number (λ i. record i { answer = Some (record a { raw = a.raw ++ b ∷ bytes }) }) t; rest = [] }
          | Bad ↦ record { state = bad_response k t; rest = [] }
          | Done rest ↦ record { state = finish k e a t; rest = rest }
        ] in length p.rest < length (b ∷ bytes))
    at e t Going is = none
    at e t Bad is = none
    at e t (Done rest) is = body_less a.rule a.raw (b ∷ bytes) rest going is

    by : (o : Option Exchange) → (let p : Piece = elim o as (λ c. Piece) [ None ↦ record { state = close_conn false k s; rest = [] } | Some e ↦ body_piece_of k a e (b ∷ bytes) s ] in length p.rest < length (b ∷ bytes))
    by None = none
    by (Some e) = at e (deliver e a (length (payload_of a)) (drop (length (payload_of a)) (body_of a.rule (a.raw ++ b ∷ bytes)).payload) s) (body_of a.rule (a.raw ++ b ∷ bytes)).outcome refl

next_less : (n : ℕ) (k : Conn) (b : ℕ) (bytes : Bytes) (s : State) → Comes s → conn s n ≡ Some k → length (next_piece k (b ∷ bytes) s).rest < length (b ∷ bytes)
next_less n k b bytes s c there = by k.answer refl
  where
    i : IsIn k s.conns
    i = (in_find (is_conn n) k s.conns there).0

    by : (o : Option Answer) → k.answer ≡ o → (let p : Piece = elim o as (λ t. Piece) [ Some a ↦ body_piece k a (b ∷ bytes) s | None ↦ head_piece k (b ∷ bytes) s ] in length p.rest < length (b ∷ bytes))
    by None is = head_less k b bytes s (unread_of s c k i)
    by (Some a) is = body_fewer k a b bytes s (going_of s c k a i is)

-- ---- so no more pieces than bytes come

nothing_got : (m n : ℕ) (s : State) → got m n [] s ≡ s
unfolding got
nothing_got zero n s = refl
nothing_got (suc m) n s = by (conn s n)
  where
    at : (k : Conn) (c : Bool) → (elim (c || true) as (λ t. State) [ true ↦ s | false ↦ got m n (next_piece k [] s).rest (next_piece k [] s).state ]) ≡ s
    at k true = refl
    at k false = refl

    by : (o : Option Conn) → (elim o as (λ t. State) [ None ↦ s | Some k ↦ elim (k.is_closing || true) as (λ t. State) [ true ↦ s | false ↦ got m n (next_piece k [] s).rest (next_piece k [] s).state ] ]) ≡ s
    by None = refl
    by (Some k) = at k k.is_closing

-- one piece
one_piece : (n : ℕ) (b : ℕ) (bytes : Bytes) (s : State) (k : Conn) → conn s n ≡ Some k → k.is_closing ≡ false → got 1 n (b ∷ bytes) s ≡ (next_piece k (b ∷ bytes) s).state
unfolding got
one_piece n b bytes s k there open_there =
    ap (λ (o : Option Conn). elim o as (λ t. State) [ None ↦ s | Some j ↦ elim (j.is_closing || is_empty (b ∷ bytes)) as (λ t. State) [ true ↦ s | false ↦ got 0 n (next_piece j (b ∷ bytes) s).rest (next_piece j (b ∷ bytes) s).state ] ]) there
    ∙ ap (λ (c : Bool). elim (c || false) as (λ t. State) [ true ↦ s | false ↦ (next_piece k (b ∷ bytes) s).state ]) open_there

pub as_many : (m l n : ℕ) (bytes : Bytes) (s : State) → Comes s → length bytes ≤ m → length bytes ≤ l → got m n bytes s ≡ got l n bytes s
unfolding got
as_many m l n [] s c short also = nothing_got m n s ∙ sym (nothing_got l n s)
as_many zero l n (b ∷ bytes) s c short also = absurd (omega (arith, short))
as_many (suc m) zero n (b ∷ bytes) s c short also = absurd (omega (arith, also))
as_many (suc m) (suc l) n (b ∷ bytes) s c short also =
    by (conn s n) refl (λ rest t on few others. as_many m l n rest t on few others)
  where
    then : ℕ → Conn → Bool → State
    then i k w = elim w as (λ t. State) [ true ↦ s | false ↦ got i n (next_piece k (b ∷ bytes) s).rest (next_piece k (b ∷ bytes) s).state ]

    Later : Type 0
    Later = (rest : Bytes) (t : State) → Comes t → length rest ≤ m → length rest ≤ l → got m n rest t ≡ got l n rest t

    at : (k : Conn) (w : Bool) → conn s n ≡ Some k → k.is_closing ≡ w → Later → then m k (w || false) ≡ then l k (w || false)
    at k true there is later = refl
    at k false there is later =
        let less : length (next_piece k (b ∷ bytes) s).rest < length (b ∷ bytes) = next_less n k b bytes s c there in
        later (next_piece k (b ∷ bytes) s).rest (next_piece k (b ∷ bytes) s).state (subst Comes (one_piece n b bytes s k there is) (got_comes 1 n (b ∷ bytes) s c)) (omega (arith, less, short)) (omega (arith, less, also))

    by : (o : Option Conn) → conn s n ≡ o → Later → (elim o as (λ t. State) [ None ↦ s | Some k ↦ then m k (k.is_closing || false) ]) ≡ (elim o as (λ t. State) [ None ↦ s | Some k ↦ then l k (k.is_closing || false) ])
    by None none later = refl
    by (Some k) there later = at k k.is_closing there refl later
