-- What one read of an origin brings, response by response, keeps what is sound.
use Rattle.std.proofs.Common.{◌≡◌, refl, ℕ, zero, suc, Bool, true, false, ◌&&◌, ◌||◌, List, [], ◌∷◌, ◌++◌, drop, Option, Some, None, Result, Ok, Err, sym, subst, ap, ◌∙◌}
use Rattle.pp_framing.specs.Body.{Outcome, Done, Going, Bad}
use Rattle.pp_framing.specs.Framing.{rule_of}
use Rattle.pp_framing.specs.Rules.{body_of}
use Rattle.pp_framing.specs.declared.body.BodyRule.{BodyRule}
use Rattle.pp_framing.specs.declared.framing.ResponseFault.{ResponseFault}
use Rattle.pp_head.specs.Read.{Read, Whole, TooLong, Bad as NoHead, More}
use Rattle.pp_head.specs.Response.{Response, response_at}
use Rattle.pp_pipe.specs.Front.{is_interim}
use Rattle.pp_text.specs.Bytes.{is_empty}
use Rattle.pp_law.specs.Connections.{conn, exchange, is_conn, is_exchange, on_conn, front_of_line, close_conn}
use Rattle.pp_law.specs.Lists.{Bytes, change}
use Rattle.pp_law.specs.OwnHeads.{is_wrong_head}
use Rattle.pp_law.specs.Responses.{finish, bad_response, bad_head, asks_head, begin_answer, answer_for, head_came, Piece, is_early, with_unread, head_piece, body_piece_of, body_piece, next_piece, got, is_whole_at_end, finish_first, ended, bring_row}
use Rattle.pp_law.specs.Stages.{bound_of}
use Rattle.pp_law.specs.State.{State, Answer, Bound, Conn, Exchange}
use Rattle.pp_laws.specs.Runs.{IsIn}
use Rattle.pp_laws.proofs.Apart.{OthersUnbound, answered, but, never_none, others_behind, others_unbound, set_apart, set_back, set_back_gone}
use Rattle.pp_laws.proofs.Binding.{Behind}
use Rattle.pp_laws.proofs.Bodies.{Opens, bad_response-gone, bad_response-sound, begin_answer-sound, begun_brings, close_this-sound, finish-sound, in_first, rule_at_304}
use Rattle.pp_laws.proofs.Cases.{each_of, each_so, when}
use Rattle.pp_laws.proofs.Closings.{IsOwnLine, close_conn-sound, own_line, own_line_shrunk}
use Rattle.pp_laws.proofs.Deliveries.{IsFitting, behind_bytes, deliver-behind}
use Rattle.pp_laws.proofs.Exchanges.{lose_attempt-sound, on_conn-sound}
use Rattle.pp_laws.proofs.Heads.{bring_row-sound}
use Rattle.pp_laws.proofs.Lists.{in_find}
use Rattle.pp_laws.proofs.Shrinks.{Shrinks, lose_attempt-shrinks}
use Rattle.pp_laws.proofs.Sound.{Brings, Fitting, Since, Sound, facts_of, first_of, sound}
use Rattle.pp_laws.proofs.Tests.{same_number}
use Rattle.pp_laws.proofs.Untouched.{bring_row-untouched, same_front}

-- ---- the exchange whose response comes next

pub front_by : (s : State) (line : List ℕ) (e : Exchange) → (elim line as (λ c. Option Exchange) [ [] ↦ None | n ∷ ns ↦ exchange s n ]) ≡ Some e → IsIn e s.exchanges × (first_of line ≡ Some e.number)
front_by s [] e is = absurd (cc is)
front_by s (n ∷ ns) e is = let there = in_find (is_exchange n) e s.exchanges is in (there.0, ap (λ m. Some m) (sym (same_number e.number n there.1)))

opens : (k : Conn) (e : Exchange) (s : State) → IsIn k s.conns → front_of_line s k ≡ Some e → Opens k e s
opens k e s there front = let f = front_by s k.line e front in record { was = k; there = there; number = refl; line = refl; front = f.1; given = f.0 }

-- ---- heads

bad_head-sound : {b : Since} (k : Conn) (s : State) → IsOwnLine k s → Sound b s → Sound b (bad_head k s)
unfolding bad_head
bad_head-sound k s own h =
    when k.has_brought
    (each_of (front_of_line s k) (close_conn-sound false k s own h) (λ e. close_conn-sound false k _ (own_line_shrunk k s _ (lose_attempt-shrinks e s) own) (lose_attempt-sound e s h)))
    (bad_response-sound k s own h)

answer_for-sound : {b : Since} (k : Conn) (e : Exchange) (head : Response) (s : State) → b.excepts ≡ None → IsIn k s.conns → k.answer ≡ None → front_of_line s k ≡ Some e → Sound b s
    → Sound b (answer_for k e head s)
unfolding answer_for opens
answer_for-sound {b} k e head s none there no_answer front h =
    when (is_wrong_head e head) (bad_head-sound k s (own_line k s there h) h)
    (by_rule (rule_of (asks_head e) head.status head.fields) refl)
  where
    by_rule : (read : Result BodyRule ResponseFault) → rule_of (asks_head e) head.status head.fields ≡ read
        → Sound b (elim read as (λ c. State) [ Ok rule ↦ begin_answer k e head rule s | Err fault ↦ bad_head k s ])
    by_rule (Ok rule) is = begin_answer-sound k e head rule s none (rule_at_304 (asks_head e) head rule is) (opens k e s there front) no_answer h
    by_rule (Err fault) is = bad_head-sound k s (own_line k s there h) h

head_came-sound : {b : Since} (k : Conn) (head : Response) (s : State) → b.excepts ≡ None → IsIn k s.conns → k.answer ≡ None → Sound b s → Sound b (head_came k head s)
unfolding head_came
head_came-sound k head s none there no_answer h =
    each_so (front_of_line s k) (λ isnt. close_conn-sound false k s (own_line k s there h) h)
    (λ e front.
    let u = bring_row-untouched e head s in
    answer_for-sound k e head _ none (subst (λ ks. IsIn k ks) (sym u.conns) there) no_answer (same_front k u ∙ front) (bring_row-sound e head s h))

piece_when : {b : Since} (t : Bool) (p q : Piece) → Sound b p.state → Sound b q.state → Sound b (elim t as (λ c. Piece) [ true ↦ p | false ↦ q ]).state
piece_when true p q hp hq = hp
piece_when false p q hp hq = hq

with_unread-sound : {b : Since} (k : Conn) (bytes : Bytes) (s : State) → Sound b s → Sound b (on_conn k.number (with_unread bytes) s)
with_unread-sound k bytes s h = on_conn-sound k.number (with_unread bytes) s (λ i. record { number = refl; line = refl; answer = refl }) h

head_piece_by : {b : Since} (k : Conn) (bytes : Bytes) (s : State) (read : Read Response) → b.excepts ≡ None → IsIn k s.conns → k.answer ≡ None → Sound b s
    → Sound b (elim read as (λ c. Piece) [
      | More ↦ record { state = on_conn k.number (with_unread bytes) s; rest = [] }
      | TooLong ↦ record { state = bad_head k s; rest = [] }
      | NoHead ↦ record { state = bad_head k s; rest = [] }
      | Whole head ↦ elim (is_interim head.status) as (λ c. Piece) [
        | true ↦ record { state = on_conn k.number (with_unread []) s; rest = drop head.length bytes }
        | false ↦ record { state = head_came k head s; rest = drop head.length bytes }
      ]
    ]).state
head_piece_by k bytes s More none there no_answer h = with_unread-sound k bytes s h
head_piece_by k bytes s TooLong none there no_answer h = bad_head-sound k s (own_line k s there h) h
head_piece_by k bytes s NoHead none there no_answer h = bad_head-sound k s (own_line k s there h) h
head_piece_by k bytes s (Whole head) none there no_answer h =
    piece_when (is_interim head.status) _ _ (with_unread-sound k [] s h) (head_came-sound k head s none there no_answer h)

head_piece-sound : {b : Since} (k : Conn) (bytes : Bytes) (s : State) → b.excepts ≡ None → IsIn k s.conns → k.answer ≡ None → Sound b s → Sound b (head_piece k bytes s).state
head_piece-sound k bytes s none there no_answer h =
    piece_when (is_early s k) _ _ (close_conn-sound true k s (own_line k s there h) h)
    (head_piece_by k (k.unread ++ bytes) s (response_at (k.unread ++ bytes)) none there no_answer h)

-- ---- pieces

shrinks_behind : {b : Since} {a : Answer} {e : Exchange} (s t : State) → Behind b a e s t → Shrinks s t
shrinks_behind s t p = record {
  exchanges = λ d i. let f = p.others d i in (f.0, f.1, f.2);
  conns = λ k i. (k, subst (λ ks. IsIn k ks) p.conns i, refl, λ n l. l);
}

going-sound : {b : Since} (k : Conn) (a : Answer) (e : Exchange) (s t : State) → b.excepts ≡ None → IsIn k s.conns → (o : Opens k e s) → Sound b s → Behind (but b e.number) a e s t
    → Sound b (on_conn k.number (λ i. record i { answer = Some a }) t)
unfolding on_conn
going-sound {b} k a e s t none there o h p = set_back e.number next brings (sound (answered (but b e.number) t k.number (λ i. record i { answer = Some a }) (λ i. refl) (λ i. refl) unbound (facts_of p.is_sound)))
  where
    next : State
    next = record t { conns = change (is_conn k.number) (λ i. record i { answer = Some a }) t.conns }

    others : OthersUnbound k.number e.number t
    others = others_behind k.number s t p (subst (λ n. OthersUnbound n e.number s) o.number (others_unbound o.was e.number s none o.there o.front h))

    unbound : (j : Conn) (d : Exchange) → IsIn j t.conns → j.number ≡ k.number → IsIn d t.exchanges → IsIn d.number j.line → ¬ (Some e.number ≡ Some d.number) → bound_of d ≡ None
    unbound j d i number at l apart = others j d i number at l (λ is. apart (ap (λ x. Some x) (sym is)))

    brings : (j : Conn) (d : Exchange) (to : Bound) → IsIn j next.conns → IsIn d t.exchanges → d.number ≡ e.number → IsIn d.number j.line → bound_of d ≡ Some to → Brings t.instances j d to
    brings j d to i m is l bound =
        let w = begun_brings k e (λ g. record g { answer = Some a }) a s (λ g. refl) (λ g. refl) o h j d.number (subst (λ ks. IsIn j (change (is_conn k.number) (λ g. record g { answer = Some a }) ks)) p.conns i) is l in
        record { front = w.0 ∙ ap (λ x. Some x) (sym is); answer = a; is = w.1; fits = λ x n id. p.starts d to x m is bound n id }

body_piece_by : {b : Since} (k : Conn) (a : Answer) (e : Exchange) (bytes : Bytes) (s t : State) (outcome : Outcome) → b.excepts ≡ None → IsIn k s.conns → (o : Opens k e s) → Sound b s → Behind (but b e.number) (behind_bytes a bytes) e s t
    → Sound b (elim outcome as (λ c. Piece) [
      | Going ↦ record { state = on_conn k.number (λ i. record i { answer = Some (record a { raw = a.raw ++ bytes }) }) t; rest = [] }
      | Bad ↦ record { state = bad_response k t; rest = [] }
      | Done rest ↦ record { state = finish k e a t; rest = rest }
    ]).state
body_piece_by k a e bytes s t Going none there o h p = going-sound k (behind_bytes a bytes) e s t none there o h p
body_piece_by k a e bytes s t Bad none there o h p =
    set_back_gone e.number _ (bad_response-gone k e.number t (sym (ap first_of o.line) ∙ o.front)) (bad_response-sound k t (own_line_shrunk k s t (shrinks_behind s t p) (own_line k s there h)) p.is_sound)
body_piece_by k a e bytes s t (Done rest) none there o h p =
    finish-sound k e a t (others_behind k.number s t p (subst (λ n. OthersUnbound n e.number s) o.number (others_unbound o.was e.number s none o.there o.front h))) p.is_sound

is_fitting : {b : Since} (k : Conn) (a : Answer) (e : Exchange) (s : State) → b.excepts ≡ None → IsIn k s.conns → k.answer ≡ Some a → front_of_line s k ≡ Some e → Sound b s → IsFitting a e s
is_fitting {b} k a e s none there has front h to x is i id =
    let o = front_by s k.line e front in
    let w = (facts_of h).brings k e to there o.0 (in_first e.number k.line o.1) is (never_none e.number b.excepts none) in
    let eq : w.answer ≡ a = same_answer w.answer (sym w.is ∙ has) in
    subst (λ (y : Answer). Fitting y to x) eq (w.fits x i id)
  where
    same_answer : (y : Answer) → Some y ≡ Some a → y ≡ a
    same_answer y both = cc

body_piece-sound : {b : Since} (k : Conn) (a : Answer) (bytes : Bytes) (s : State) → b.excepts ≡ None → IsIn k s.conns → k.answer ≡ Some a → Sound b s → Sound b (body_piece k a bytes s).state
body_piece-sound {b} k a bytes s none there has h = by (front_of_line s k) refl
  where
    by : (front : Option Exchange) → front_of_line s k ≡ front
        → Sound b (elim front as (λ c. Piece) [ None ↦ record { state = close_conn false k s; rest = [] } | Some e ↦ body_piece_of k a e bytes s ]).state
    by None is = close_conn-sound false k s (own_line k s there h) h
    by (Some e) is =
        body_piece_by k a e bytes s _ (body_of a.rule (a.raw ++ bytes)).outcome none there (opens k e s there is) h
        (deliver-behind a e bytes s refl (front_by s k.line e is).0 (is_fitting k a e s none there has is h) (set_apart e.number s none h))

pub next_piece-sound : {b : Since} (k : Conn) (bytes : Bytes) (s : State) → b.excepts ≡ None → IsIn k s.conns → Sound b s → Sound b (next_piece k bytes s).state
next_piece-sound {b} k bytes s none there h = by k.answer refl
  where
    by : (answer : Option Answer) → k.answer ≡ answer → Sound b (elim answer as (λ c. Piece) [ Some a ↦ body_piece k a bytes s | None ↦ head_piece k bytes s ]).state
    by None is = head_piece-sound k bytes s none there is h
    by (Some a) is = body_piece-sound k a bytes s none there is h

pub got-sound : {b : Since} (more n : ℕ) (bytes : Bytes) (s : State) → b.excepts ≡ None → Sound b s → Sound b (got more n bytes s)
unfolding got
got-sound zero n bytes s none h = h
got-sound (suc more) n bytes s none h =
    each_so (conn s n) (λ isnt. h)
    (λ k found. when (k.is_closing || is_empty bytes) h (got-sound more n (next_piece k bytes s).rest (next_piece k bytes s).state none (next_piece-sound k bytes s none (in_find (is_conn n) k s.conns found).0 h)))

-- ---- the end of a connection

finish_first-sound : {b : Since} (k : Conn) (a : Answer) (s : State) → b.excepts ≡ None → IsIn k s.conns → Sound b s → Sound b (finish_first k a s)
unfolding finish_first
finish_first-sound k a s none there h =
    each_so (front_of_line s k) (λ isnt. h) (λ e front. finish-sound k e a s (others_unbound k e.number s none there (front_by s k.line e front).1 h) (set_apart e.number s none h))

pub ended-sound : {b : Since} (is_clean : Bool) (k : Conn) (s : State) → b.excepts ≡ None → IsIn k s.conns → Sound b s → Sound b (ended is_clean k s)
unfolding ended
ended-sound is_clean k s none there h =
    each_of k.answer (close_conn-sound true k s (own_line k s there h) h)
    (λ a. when (is_clean && is_whole_at_end a) (close_this-sound k.number _ (finish_first-sound k a s none there h)) (close_conn-sound true k s (own_line k s there h) h))
