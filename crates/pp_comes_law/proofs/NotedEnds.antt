-- What closings, data and the end of a response leave of the heads that may still come on a connection, two for each of its line, with what is noted of
-- rows (RFC 2616, section 8.1.2.2).
use Rattle.std.proofs.Common.{◌≡◌, ◌≤◌, refl, sym, subst, ap, ◌∙◌, ℕ, ◌+◌, ◌-◌, ◌*◌, Bool, true, false, not, ◌==◌, ◌&&◌, filter, length, map, List, [], ◌∷◌, Option, Some, None, le_refl, zero-le, arith}
use Rattle.pp_cache.specs.Notes.{has_noted}
use Rattle.pp_law.specs.Connections.{close_conn, conn, each_exchange, end_exchange, exchange, fail, front_of_line, is_conn, is_exchange, leave_place, lose_attempt, lose_place, may_ask_again, on_client_of, on_conn, on_exchange, without_ask}
use Rattle.pp_law.specs.Lists.{Bytes}
use Rattle.pp_law.specs.OwnHeads.{first_offset, join, join_bound, moved_on, note_own, note_sent, sent_as, joined_one}
use Rattle.pp_law.specs.Chunks.{joined, note_use}
use Rattle.pp_law.specs.Passing.{pour, poured}
use Rattle.pp_law.specs.Responses.{Piece, bad_head, bad_response, close_this, deliver, finish, may_go_on, rested, skip_body, skipping}
use Rattle.pp_law.specs.Stages.{bound_of, is_headed}
use Rattle.pp_law.specs.State.{State, Aim, Through, Own, Filling, Answer, Bound, Conn, Exchange, Instance}
use Rattle.pp_law.specs.Table.{extent_of}
use Rattle.pp_laws.proofs.Lists.{From, in_find, in_map}
use Rattle.pp_laws.proofs.Tests.{number_same, same_number}
use Rattle.pp_laws.specs.Runs.{IsIn}
use Rattle.pp_laws_bounds.proofs.Counts.{filter-all, length-filter}
use Rattle.pp_laws_bounds.proofs.Pigeons.{count-out}
use Rattle.pp_pass.specs.Pipe.{Pipe, finished}
use Rattle.pp_text.specs.Bytes.{is_empty}
use Rattle.pp_comes_law.proofs.NotedRows.{Few, attempt_few, failed_few, few_as}

-- ---- how many heads may still come

-- two for each of its line, but for the one whose head came
abbrev pub due_in : Option Answer → ℕ → ℕ
due_in None n = 2 * n
due_in (Some a) n = 2 * n - 2

abbrev pub due_of : Conn → ℕ
due_of k = due_in k.answer (length k.line)

-- and where the next head is paid for
abbrev pub paid_of : Conn → ℕ
paid_of k = 2 * length k.line - 2

-- with what may still come on this connection they are few
pub record IsNoted (due : Conn → ℕ) (n : ℕ) (s : State) : Type 0 where
  pub most : ℕ
  pub few : Few most most s.conns s
  pub left : (k : Conn) → IsIn k s.conns → k.number ≡ n → most + due k ≤ 16

pub fewer_due : (o : Option Answer) (i j : ℕ) → i ≤ j → due_in o i ≤ due_in o j
fewer_due None i j le = omega (arith, le)
fewer_due (Some a) i j le = omega (arith, le)

pub paid_due : (o : Option Answer) (i : ℕ) → 2 * i - 2 ≤ due_in o i
paid_due None i = omega arith
paid_due (Some a) i = le_refl (2 * i - 2)

-- ---- what keeps it

pub based : {l m : ℕ} {cs : List Conn} (s : State) → Few l m cs s → Few l m s.conns s
based s f = record { same = refl; before = f.before; behind = f.behind; is = f.is; few = f.few; noted = f.noted; unnoted = f.unnoted }

pub with_rows : {due : Conn → ℕ} {n : ℕ} (s t : State) → ((l m : ℕ) (cs : List Conn) → Few l m cs s → Few l m cs t) → IsNoted due n s → IsNoted due n t
with_rows s t go h =
    let f : Few h.most h.most s.conns t = go h.most h.most s.conns h.few in
    record { most = h.most; few = based t f; left = λ k i number. h.left k (subst (λ (ks : List Conn). IsIn k ks) f.same i) number }

-- connections are changed, and nothing of rows
pub with_conns : {due later : Conn → ℕ} {n : ℕ} (s t : State) (g : Conn → Conn) → ((k : Conn) → (g k).number ≡ k.number) → ((k : Conn) → IsIn k s.conns → k.number ≡ n → later (g k) ≤ due k) → t.conns ≡ map g s.conns → t.instances ≡ s.instances → t.forgotten ≡ s.forgotten → IsNoted due n s → IsNoted later n t
with_conns {due} {later} {n} s t g number fewer conns instances forgotten h = record {
  most = h.most;
  few = record {
    same = refl;
    before = h.few.before;
    behind = h.few.behind;
    is = instances ∙ h.few.is;
    few = h.few.few;
    noted = subst (λ (keys : List Bytes). length keys ≤ h.most) (sym forgotten) h.few.noted;
    unnoted = λ x i on. ap (λ (keys : List Bytes). has_noted x.key keys) forgotten ∙ h.few.unnoted x i on;
  };
  left = λ k i its. (
      let r : From g s.conns k = in_map g k s.conns (subst (λ (ks : List Conn). IsIn k ks) conns i) in
      let its_number : r.was.number ≡ n = sym (ap (λ (j : Conn). j.number) r.is ∙ number r.was) ∙ its in
      subst (λ (j : Conn). h.most + later j ≤ 16) (sym r.is) (let one = fewer r.was r.there its_number in let all = h.left r.was r.there its_number in omega (arith, one, all)));
}

pub number_at : (n : ℕ) (g : Conn → Conn) (k : Conn) (b : Bool) → (g k).number ≡ k.number → (elim b as (λ t. Conn) [ true ↦ g k | false ↦ k ]).number ≡ k.number
number_at n g k true same = same
number_at n g k false same = refl

-- one is changed
pub on_noted : {due later : Conn → ℕ} {n : ℕ} (g : Conn → Conn) (s : State) → ((k : Conn) → (g k).number ≡ k.number) → ((k : Conn) → IsIn k s.conns → k.number ≡ n → later (g k) ≤ due k) → IsNoted due n s → IsNoted later n (on_conn n g s)
unfolding on_conn
on_noted {due} {later} {n} g s number fewer =
    with_conns s (on_conn n g s) (λ k. elim (is_conn n k) as (λ t. Conn) [ true ↦ g k | false ↦ k ]) (λ k. number_at n g k (is_conn n k) (number k)) (λ k i its. by k i its (is_conn n k) refl) refl refl refl
  where
    by : (k : Conn) → IsIn k s.conns → k.number ≡ n → (b : Bool) → is_conn n k ≡ b → later (elim b as (λ t. Conn) [ true ↦ g k | false ↦ k ]) ≤ due k
    by k i its true is = fewer k i its
    by k i its false is = let both : true ≡ false = sym (ap (λ (m : ℕ). m == n) its ∙ number_same n) ∙ is in absurd (cc both)

-- ---- closings

-- lines get shorter
abbrev pub Shrinks : (Conn → ℕ) → Type 0
Shrinks due = (k : Conn) (n : ℕ) → due (without_ask n k) ≤ due k

pub due_shrinks : Shrinks due_of
due_shrinks k n = fewer_due k.answer (length (filter (λ m. not (m == n)) k.line)) (length k.line) (length-filter (λ m. not (m == n)) k.line)

pub paid_shrinks : Shrinks paid_of
paid_shrinks k n = omega (arith, length-filter (λ m. not (m == n)) k.line)

pub ended_as : {due later : Conn → ℕ} {n : ℕ} (m : ℕ) (s : State) → ((k : Conn) → IsIn k s.conns → k.number ≡ n → later (without_ask m k) ≤ due k) → IsNoted due n s → IsNoted later n (end_exchange m s)
unfolding end_exchange
ended_as m s fewer = with_conns s (end_exchange m s) (without_ask m) (λ k. refl) fewer refl refl refl

module _ {due : Conn → ℕ} (shrinks : Shrinks due) {n : ℕ} where
  pub over_noted : (m : ℕ) (s : State) → IsNoted due n s → IsNoted due n (end_exchange m s)
  over_noted m s = ended_as m s (λ k i its. shrinks k m)

  pub lost_noted : (e : Exchange) (s : State) → IsNoted due n s → IsNoted due n (lose_attempt e s)
  lost_noted e s = with_rows s (lose_attempt e s) (λ l m cs f. attempt_few e s f)

  pub failed_noted : (e : Exchange) (s : State) → IsNoted due n s → IsNoted due n (fail e s)
  failed_noted e s = with_rows s (fail e s) (λ l m cs f. failed_few e s f)

pub same_noted : {due : Conn → ℕ} {n : ℕ} (s t : State) → t.conns ≡ s.conns → t.instances ≡ s.instances → t.forgotten ≡ s.forgotten → IsNoted due n s → IsNoted due n t
same_noted s t conns instances forgotten = with_rows s t (λ l m cs f. few_as s t conns instances forgotten f)

pub noted_when : {due : Conn → ℕ} {n : ℕ} (b : Bool) {x y : State} → IsNoted due n x → IsNoted due n y → IsNoted due n (elim b as (λ t. State) [ true ↦ x | false ↦ y ])
noted_when true hx hy = hx
noted_when false hx hy = hy

pub noted_each : {A : Type 0} {due : Conn → ℕ} {n : ℕ} (o : Option A) {x : State} {y : A → State} → IsNoted due n x → ((a : A) → IsNoted due n (y a)) → IsNoted due n (elim o as (λ t. State) [ None ↦ x | Some a ↦ y a ])
noted_each None hx hy = hx
noted_each (Some a) hx hy = hy a

pub left_noted : {n : ℕ} (e : Exchange) (s : State) → IsNoted due_of n s → IsNoted due_of n (leave_place e s)
unfolding leave_place on_client_of on_exchange
left_noted e s h =
    noted_when (is_headed e)
    (over_noted due_shrinks e.number _ (same_noted s _ refl refl refl h))
    (noted_when (may_ask_again s e.number) (same_noted s _ refl refl refl h) (over_noted due_shrinks e.number s h))

pub place_noted : {n : ℕ} (counts : Bool) (e : Exchange) (s : State) → IsNoted due_of n s → IsNoted due_of n (lose_place counts e s)
unfolding lose_place
place_noted counts e s h = noted_when counts (left_noted e (lose_attempt e s) (lost_noted due_shrinks e s h)) (left_noted e s h)

pub places_noted : {n : ℕ} (counts : Bool) (ns : List ℕ) (s : State) → IsNoted due_of n s → IsNoted due_of n (each_exchange (lose_place counts) ns s)
unfolding each_exchange
places_noted counts [] s h = h
places_noted counts (m ∷ ns) s h = places_noted counts ns _ (noted_each (exchange s m) h (λ e. place_noted counts e s h))

abbrev pub closing : Conn → Conn
closing j = record j { is_closing = true; line = []; answer = None; unread = [] }

-- whatever was due, no head comes to one that is closed
pub close_noted : {due : Conn → ℕ} {n : ℕ} (counts : Bool) (k : Conn) (s : State) → k.number ≡ n → IsNoted due n s → IsNoted due_of n (close_conn counts k s)
unfolding close_conn
close_noted {due} {n} counts k s its h =
    places_noted (counts && not k.has_brought) k.line (on_conn k.number closing s)
    (subst (λ (m : ℕ). IsNoted due_of n (on_conn m closing s)) (sym its) (on_noted {due = due} {later = due_of} closing s (λ j. refl) (λ j i number. zero-le) h))

pub bad_noted : {due : Conn → ℕ} {n : ℕ} (k : Conn) (s : State) → Shrinks due → k.number ≡ n → IsNoted due n s → IsNoted due_of n (bad_response k s)
unfolding bad_response
bad_noted k s shrinks its h = noted_each (front_of_line s k) (close_noted false k s its h) (λ e. close_noted false k (end_exchange e.number (fail e s)) its (over_noted shrinks e.number (fail e s) (failed_noted shrinks e s h)))

pub bad_head_noted : {due : Conn → ℕ} {n : ℕ} (k : Conn) (s : State) → Shrinks due → k.number ≡ n → IsNoted due n s → IsNoted due_of n (bad_head k s)
unfolding bad_head
bad_head_noted k s shrinks its h =
    noted_when k.has_brought (noted_each (front_of_line s k) (close_noted false k s its h) (λ e. close_noted false k (lose_attempt e s) its (lost_noted shrinks e s h))) (bad_noted k s shrinks its h)

-- ---- a response is whole

-- of each connection of that number a head came, and this exchange stands in its line
pub record IsAnswered (m : ℕ) (k : Conn) : Type 0 where
  pub answer : Answer
  pub is : k.answer ≡ Some answer
  pub here : IsIn m k.line

abbrev pub AreAnswered : ℕ → ℕ → State → Type 0
AreAnswered m n s = (k : Conn) → IsIn k s.conns → k.number ≡ n → IsAnswered m k

-- as if none had come
abbrev pub all_of : Conn → ℕ
all_of k = 2 * length k.line

pub one_out : (m : ℕ) (ns : List ℕ) → IsIn m ns → length (filter (λ i. not (i == m)) ns) + 1 ≤ length ns
one_out m ns i =
    omega (
      arith,
      count-out (λ x. true) (λ x. not (x == m)) m ns i refl (ap (λ (b : Bool). not b) (number_same m)),
      ap (λ (xs : List ℕ). length xs) (filter-all (λ x. true) (filter (λ x. not (x == m)) ns) (λ x j. refl)),
      ap (λ (xs : List ℕ). length xs) (filter-all (λ x. true) ns (λ x j. refl)),
    )

pub record IsBeside (s t : State) : Type 0 where
  pub conns : t.conns ≡ s.conns
  pub instances : t.instances ≡ s.instances
  pub forgotten : t.forgotten ≡ s.forgotten

pub poured_beside : (e : Exchange) (f : Pipe → Pipe) (s : State) → IsBeside s (pour e f s)
unfolding pour on_client_of
poured_beside e f s = record { conns = refl; instances = refl; forgotten = refl }

pub skipped_beside : (e : Exchange) (s : State) → IsBeside s (skip_body e s)
unfolding skip_body on_client_of
skipped_beside e s = by e.aim
  where
    by : (aim : Aim) → IsBeside s (elim aim as (λ t. State) [ Through ↦ on_client_of e skipping s | Own ↦ s | Filling v from to ↦ s ])
    by Through = record { conns = refl; instances = refl; forgotten = refl }
    by Own = record { conns = refl; instances = refl; forgotten = refl }
    by (Filling v from to) = record { conns = refl; instances = refl; forgotten = refl }

pub beside_noted : {due : Conn → ℕ} {n : ℕ} (s t : State) → IsBeside s t → IsNoted due n s → IsNoted due n t
beside_noted s t beside = same_noted s t beside.conns beside.instances beside.forgotten

pub this_noted : {n : ℕ} (m : ℕ) (s : State) → m ≡ n → IsNoted due_of n s → IsNoted due_of n (close_this m s)
unfolding close_this
this_noted {n} m s its h = by (conn s m) refl
  where
    by : (o : Option Conn) → conn s m ≡ o → IsNoted due_of n (elim o as (λ t. State) [ None ↦ s | Some k ↦ close_conn true k s ])
    by None none = h
    by (Some k) found = close_noted true k s (same_number k.number m (in_find (is_conn m) k s.conns found).1 ∙ its) h

pub finish_noted : {n : ℕ} (k : Conn) (e : Exchange) (a : Answer) (s : State) → k.number ≡ n → AreAnswered e.number n s → IsNoted due_of n s → IsNoted due_of n (finish k e a s)
unfolding finish
finish_noted {n} k e a s its answered h = noted_when (may_go_on e a.head) done (this_noted k.number _ its done)
  where
    u : State
    u = skip_body e (pour e finished s)

    same_conns : u.conns ≡ s.conns
    same_conns = (skipped_beside e (pour e finished s)).conns ∙ (poured_beside e finished s).conns

    then : IsNoted due_of n u
    then = beside_noted (pour e finished s) u (skipped_beside e (pour e finished s)) (beside_noted s (pour e finished s) (poured_beside e finished s) h)

    fewer : (j : Conn) → IsIn j u.conns → j.number ≡ n → all_of (without_ask e.number j) ≤ due_of j
    fewer j i number =
        let w : IsAnswered e.number j = answered j (subst (λ (ks : List Conn). IsIn j ks) same_conns i) number in
        subst (λ (o : Option Answer). 2 * length (filter (λ m. not (m == e.number)) j.line) ≤ due_in o (length j.line)) (sym w.is) (let one = one_out e.number j.line w.here in omega (arith, one))

    over : IsNoted all_of n (end_exchange e.number u)
    over = ended_as e.number u fewer then

    done : IsNoted due_of n (on_conn k.number (rested a.head) (end_exchange e.number u))
    done = subst (λ (m : ℕ). IsNoted due_of n (on_conn m (rested a.head) (end_exchange e.number u))) (sym its) (on_noted {due = all_of} {later = due_of} (rested a.head) (end_exchange e.number u) (λ j. refl) (λ j i number. le_refl (2 * length j.line)) over)

pub sent_beside : (e : Exchange) (a : Answer) (at : ℕ) (bytes : Bytes) (s : State) → IsBeside s (note_sent e a at bytes s)
unfolding note_sent note_own
sent_beside e a at bytes s = by e.aim
  where
    owns : (t : Bool) → IsBeside s (elim t as (λ c. State) [ true ↦ s | false ↦ record s { sent = sent_as e (first_offset a.head + at) bytes a.version s.sent } ])
    owns true = record { conns = refl; instances = refl; forgotten = refl }
    owns false = record { conns = refl; instances = refl; forgotten = refl }

    by : (aim : Aim) → IsBeside s (elim aim as (λ c. State) [ Through ↦ s | Own ↦ note_own e a at bytes s | Filling v from to ↦ note_own e a at bytes s ])
    by Through = record { conns = refl; instances = refl; forgotten = refl }
    by Own = owns (is_empty bytes)
    by (Filling v from to) = owns (is_empty bytes)

pub joined_beside : (e : Exchange) (bytes : Bytes) (s : State) → IsBeside s (join_bound e bytes s)
unfolding join_bound join note_use on_exchange
joined_beside e bytes s = by (bound_of e)
  where
    found : (to : Bound) (o : Option Instance) → IsBeside s (on_exchange e.number (moved_on (length bytes)) (elim o as (λ c. State) [ None ↦ s | Some x ↦ note_use (record s { chunks = joined x.id (extent_of s x) to.next bytes s.chunks }) ]))
    found to None = record { conns = refl; instances = refl; forgotten = refl }
    found to (Some x) = record { conns = refl; instances = refl; forgotten = refl }

    by : (o : Option Bound) → IsBeside s (elim o as (λ c. State) [ None ↦ s | Some to ↦ on_exchange e.number (moved_on (length bytes)) (join to bytes s) ])
    by None = record { conns = refl; instances = refl; forgotten = refl }
    by (Some to) = found to (joined_one to bytes s)

pub delivered_beside : (e : Exchange) (a : Answer) (at : ℕ) (bytes : Bytes) (s : State) → IsBeside s (deliver e a at bytes s)
unfolding deliver
delivered_beside e a at bytes s =
    let one : IsBeside s (note_sent e a at bytes s) = sent_beside e a at bytes s in
    let two : IsBeside (note_sent e a at bytes s) (join_bound e bytes (note_sent e a at bytes s)) = joined_beside e bytes (note_sent e a at bytes s) in
    let three : IsBeside (join_bound e bytes (note_sent e a at bytes s)) (pour e (poured bytes) (join_bound e bytes (note_sent e a at bytes s))) = poured_beside e (poured bytes) (join_bound e bytes (note_sent e a at bytes s)) in
    record { conns = three.conns ∙ two.conns ∙ one.conns; instances = three.instances ∙ two.instances ∙ one.instances; forgotten = three.forgotten ∙ two.forgotten ∙ one.forgotten }

-- the first of a line
pub first_in : (s : State) (line : List ℕ) (e : Exchange) → (elim line as (λ c. Option Exchange) [ [] ↦ None | n ∷ ns ↦ exchange s n ]) ≡ Some e → (others : List ℕ) × (line ≡ e.number ∷ others)
first_in s [] e is = absurd (cc is)
first_in s (n ∷ ns) e is = (ns, ap (λ m. m ∷ ns) (sym (same_number e.number n (in_find (is_exchange n) e s.exchanges is).1)))

pub piece_when : {n : ℕ} (b : Bool) (x y : Piece) → IsNoted due_of n x.state → IsNoted due_of n y.state → IsNoted due_of n (elim b as (λ c. Piece) [ true ↦ x | false ↦ y ]).state
piece_when true x y hx hy = hx
piece_when false x y hx hy = hy
