-- The ends of responses, and the heads that begin them, keep what is sound.
use Rattle.std.proofs.Common.{◌≡◌, ◌⊎◌, refl, ℕ, Bool, true, false, not, ◌==◌, List, [], ◌∷◌, find, cond, length, Option, Some, None, Result, Ok, Err, inl, inr, sym, subst, ap, ◌∙◌, arith}
use Rattle.std.specs.Prelude.{codes, nat_lt}
use Rattle.pp_framing.specs.Framing.{rule_of, framing_of, framed, coding_of, is_other, length_of, by_length, has_no_body, response_body}
use Rattle.pp_framing.specs.Rules.{body_of}
use Rattle.pp_framing.specs.declared.body.BodyRule.TheVariants.{Empty}
use Rattle.pp_framing.specs.declared.body.BodyRule.{BodyRule}
use Rattle.pp_framing.specs.declared.framing.FramingFault.TheVariants.{OtherCoding}
use Rattle.pp_framing.specs.declared.framing.FramingFault.{FramingFault}
use Rattle.pp_framing.specs.declared.framing.ResponseFault.TheVariants.{NoStatus}
use Rattle.pp_framing.specs.declared.framing.ResponseFault.{ResponseFault}
use Rattle.pp_head.specs.Response.{Response}
use Rattle.pp_pass.specs.Pipe.{Pipe, finished}
use Rattle.pp_text.specs.Fields.{Field, values_of}
use Rattle.pp_valid.specs.declared.version.Version.{Version}
use Rattle.pp_law.specs.Connections.{conn, exchange, is_conn, is_exchange, on_conn, front_of_line, fail, without_ask, end_exchange}
use Rattle.pp_law.specs.Lists.{change}
use Rattle.pp_law.specs.OwnHeads.{key_of}
use Rattle.pp_law.specs.Passing.{pour}
use Rattle.pp_law.specs.Responses.{skipping, skip_body, may_go_on, rested, close_this, finish, bad_response, answer_with, answered_by, end_if_empty, begin_answer}
use Rattle.pp_law.specs.Stages.{on_passed, bound_of}
use Rattle.pp_law.specs.State.{State, Aim, Through, Own, Filling, Answer, Bound, Conn, Exchange}
use Rattle.pp_laws.specs.Runs.{IsIn}
use Rattle.pp_laws.proofs.Apart.{IsGone, OthersUnbound, answered, bound_by, but, end_exchange-gone, gone_shrunk, never_none, others_behind, others_unbound, others_untouched, set_apart, set_back, set_back_gone}
use Rattle.pp_laws.proofs.Binding.{Before, Behind}
use Rattle.pp_laws.proofs.Callers.{same_parts}
use Rattle.pp_laws.proofs.Cases.{by_aim_of, by_outcome, each_of, each_so, when}
use Rattle.pp_laws.proofs.Clients.{pour-sound}
use Rattle.pp_laws.proofs.Closings.{IsOwnLine, close_conn-sound, own_line, own_line_shrunk}
use Rattle.pp_laws.proofs.Exchanges.{end_exchange-sound, fail-sound, on_client_of-sound}
use Rattle.pp_laws.proofs.Heads.{IsEmptyAt304, by_aim-behind}
use Rattle.pp_laws.proofs.Lists.{Changed, From, in_change, in_filter, in_find, in_map, one_of, other, same}
use Rattle.pp_laws.proofs.Shrinks.{close_conn-shrinks, end_exchange-shrinks, fail-shrinks, shrinks_on}
use Rattle.pp_laws.proofs.Sound.{FactsOf, Since, Sound, conn_number, exchange_number, facts_of, first_of, sound}
use Rattle.pp_laws.proofs.Tests.{number_same, same_number}
use Rattle.pp_laws.proofs.Untouched.{Untouched, on_client_of-untouched, untouched, untouched_on}

-- ---- ends

pub skip_body-sound : {b : Since} (e : Exchange) (s : State) → Sound b s → Sound b (skip_body e s)
unfolding skip_body
skip_body-sound e s h = by_aim_of e.aim (on_client_of-sound e skipping s (λ c. same_parts _ c refl refl refl) h) h (λ v from to. h)

untouched_by_aim : (s : State) (aim : Aim) {x y : State} {z : Version → ℕ → ℕ → State} → Untouched s x → Untouched s y → ((v : Version) (from to : ℕ) → Untouched s (z v from to))
    → Untouched s (elim aim as (λ c. State) [ Through ↦ x | Own ↦ y | Filling v from to ↦ z v from to ])
untouched_by_aim s Through hx hy hz = hx
untouched_by_aim s Own hx hy hz = hy
untouched_by_aim s (Filling v from to) hx hy hz = hz v from to

skip_body-untouched : (e : Exchange) (s : State) → Untouched s (skip_body e s)
unfolding skip_body
skip_body-untouched e s = untouched_by_aim s e.aim (on_client_of-untouched e skipping s) (untouched s) (λ v from to. untouched s)

pour-untouched : (e : Exchange) (f : Pipe → Pipe) (s : State) → Untouched s (pour e f s)
unfolding pour
pour-untouched e f s = on_client_of-untouched e (on_passed (λ p. record p { pipe = f p.pipe })) s

pub close_this-sound : {b : Since} (n : ℕ) (s : State) → Sound b s → Sound b (close_this n s)
unfolding close_this
close_this-sound n s h = each_so (conn s n) (λ none. h) (λ k found. close_conn-sound true k s (own_line k s (in_find (is_conn n) k s.conns found).0 h) h)

end_exchange-others : (n m : ℕ) (s : State) → OthersUnbound n m s → OthersUnbound n m (end_exchange m s)
unfolding end_exchange
end_exchange-others n m s others k d i number j l apart = by (in_map (without_ask m) k s.conns i)
  where
    by : From (without_ask m) s.conns k → bound_of d ≡ None
    by r = others r.was d r.there (sym (ap conn_number r.is) ∙ number) (in_filter (λ e. not (is_exchange m e)) d s.exchanges j).0
        (in_filter (λ x. not (x == m)) d.number r.was.line (subst (λ (x : Conn). IsIn d.number x.line) r.is l)).0 apart

done-sound : {b : Since} (k : Conn) (e : Exchange) (a : Answer) (s : State) → OthersUnbound k.number e.number s → Sound (but b e.number) s
    → Sound b (on_conn k.number (rested a.head) (end_exchange e.number (skip_body e (pour e finished s))))
unfolding on_conn
done-sound {b} k e a s others h = sound (answered b over k.number (rested a.head) (λ j. refl) (λ j. refl) unbound (facts_of is_over))
  where
    quiet : State
    quiet = skip_body e (pour e finished s)

    over : State
    over = end_exchange e.number quiet

    is_over : Sound b over
    is_over = set_back_gone e.number over (end_exchange-gone e.number quiet) (end_exchange-sound e.number quiet (skip_body-sound e (pour e finished s) (pour-sound e finished s h)))

    rest : OthersUnbound k.number e.number over
    rest = end_exchange-others k.number e.number quiet (others_untouched k.number e.number s quiet (untouched_on s (pour e finished s) quiet (pour-untouched e finished s) (skip_body-untouched e (pour e finished s))) others)

    unbound : (j : Conn) (d : Exchange) → IsIn j over.conns → j.number ≡ k.number → IsIn d over.exchanges → IsIn d.number j.line → ¬ (b.excepts ≡ Some d.number) → bound_of d ≡ None
    unbound j d i number at l apart = rest j d i number at l (end_exchange-gone e.number quiet d at)

pub finish-sound : {b : Since} (k : Conn) (e : Exchange) (a : Answer) (s : State) → OthersUnbound k.number e.number s → Sound (but b e.number) s → Sound b (finish k e a s)
unfolding finish
finish-sound k e a s others h = when (may_go_on e a.head) (done-sound k e a s others h) (close_this-sound k.number _ (done-sound k e a s others h))

pub bad_response-sound : {b : Since} (k : Conn) (s : State) → IsOwnLine k s → Sound b s → Sound b (bad_response k s)
unfolding bad_response
bad_response-sound k s own h =
    each_of (front_of_line s k) (close_conn-sound false k s own h)
    (λ e. close_conn-sound false k _ (own_line_shrunk k s _ (shrinks_on s _ _ (fail-shrinks e s) (end_exchange-shrinks e.number _)) own) (end_exchange-sound e.number _ (fail-sound e s h)))

-- the first of the line is gone behind a bad response
front_of : (s : State) (k : Conn) (line : List ℕ) (m : ℕ) (found : Option Exchange) → first_of line ≡ Some m → (elim line as (λ c. Option Exchange) [ [] ↦ None | n ∷ ns ↦ exchange s n ]) ≡ found → exchange s m ≡ found
front_of s k [] m found first is = absurd (cc first)
front_of s k (n ∷ ns) m found first is = let e : n ≡ m = cc in subst (λ x. exchange s x ≡ found) e is

none_gone : (m : ℕ) (es : List Exchange) → find (is_exchange m) es ≡ None → (d : Exchange) → IsIn d es → ¬ (d.number ≡ m)
none_gone m [] none d i is = i
none_gone m (e ∷ es) none d i is = by (is_exchange m e) refl none i (none_gone m es)
  where
    by : (t : Bool) → is_exchange m e ≡ t → cond t (Some e) (find (is_exchange m) es) ≡ None → (d ≡ e) ⊎ IsIn d es → (find (is_exchange m) es ≡ None → (g : Exchange) → IsIn g es → ¬ (g.number ≡ m)) → ⊥
    by true hit found at rest = absurd (cc found)
    by false isnt found (inl eq) rest = let both : true ≡ false = sym (number_same m) ∙ ap (λ x. x == m) (sym is ∙ ap exchange_number eq) ∙ isnt in cc both
    by false isnt found (inr j) rest = rest found d j is

gone_each : (m : ℕ) (o : Option Exchange) (x : State) (y : Exchange → State) → (o ≡ None → IsGone m x) → ((e : Exchange) → o ≡ Some e → IsGone m (y e)) → IsGone m (elim o as (λ c. State) [ None ↦ x | Some e ↦ y e ])
gone_each m None x y hx hy = hx refl
gone_each m (Some e) x y hx hy = hy e refl

pub bad_response-gone : (k : Conn) (m : ℕ) (s : State) → first_of k.line ≡ Some m → IsGone m (bad_response k s)
unfolding bad_response
bad_response-gone k m s first =
    gone_each m (front_of_line s k) _ _
    (λ none. gone_shrunk m s _ (close_conn-shrinks false k s) (none_gone m s.exchanges (front_of s k k.line m None first none)))
    (λ e found. gone_shrunk m _ _ (close_conn-shrinks false k _) (subst (λ n. IsGone n (end_exchange e.number (fail e s))) (number e (front_of s k k.line m (Some e) first found)) (end_exchange-gone e.number (fail e s))))
  where
    number : (e : Exchange) → exchange s m ≡ Some e → e.number ≡ m
    number e found = same_number e.number m (in_find (is_exchange m) e s.exchanges found).1

-- ---- heads

empty_by : (other_coding : Bool) (hr : Bool) (status : ℕ) (fields : List Field) (rule : BodyRule) (lengths : Result (Option ℕ) FramingFault) → (status == 304) ≡ true
    → (elim other_coding as (λ c. Result BodyRule FramingFault) [
      | true ↦ Err OtherCoding
      | false ↦ by_length lengths (λ length. elim (has_no_body hr status) as (λ c. BodyRule) [ true ↦ Empty | false ↦ response_body (coding_of fields) length ])
    ]) ≡ Ok rule → rule ≡ Empty
empty_by true hr status fields rule lengths is ok = absurd (cc ok)
empty_by false hr status fields rule (Err fault) is ok = absurd (cc ok)
empty_by false hr status fields rule (Ok length) is ok = let r : response ≡ rule = cc in sym r ∙ ap (λ t. elim t as (λ c. BodyRule) [ true ↦ Empty | false ↦ response_body (coding_of fields) length ]) none
  where
    response : BodyRule
    response = elim (has_no_body hr status) as (λ c. BodyRule) [ true ↦ Empty | false ↦ response_body (coding_of fields) length ]

    none : has_no_body hr status ≡ true
    none = grind arith

framed_at : (framing : Result BodyRule FramingFault) (rule : BodyRule) → framed framing ≡ Ok rule → framing ≡ Ok rule
framed_at (Ok found) rule is = let eq : found ≡ rule = cc in ap (λ r. Ok r) eq
framed_at (Err fault) rule is = absurd (cc is)

rule_from : (no_status : Bool) (framing : Result BodyRule ResponseFault) (rule : BodyRule) → (elim no_status as (λ c. Result BodyRule ResponseFault) [ true ↦ Err NoStatus | false ↦ framing ]) ≡ Ok rule → framing ≡ Ok rule
rule_from true framing rule is = absurd (cc is)
rule_from false framing rule is = is

-- "such as the 1xx, 204, and 304 responses" have no body
pub rule_at_304 : (hr : Bool) (head : Response) (rule : BodyRule) → rule_of hr head.status head.fields ≡ Ok rule → IsEmptyAt304 head rule
rule_at_304 hr head rule ok is =
    empty_by (is_other (coding_of head.fields)) hr head.status head.fields rule (length_of (values_of (codes "content-length") head.fields)) is (framed_at (framing_of hr head.status head.fields) rule (rule_from (nat_lt head.status 100) _ rule ok))

-- a connection that is there, the first of its line, and no answer yet
pub record Opens (k : Conn) (e : Exchange) (s : State) : Type 0 where
  pub was : Conn
  pub there : IsIn was s.conns
  pub number : was.number ≡ k.number
  pub line : was.line ≡ k.line
  pub front : first_of was.line ≡ Some e.number
  pub given : IsIn e s.exchanges

pub in_first : (n : ℕ) (ns : List ℕ) → first_of ns ≡ Some n → IsIn n ns
in_first n [] is = absurd (cc is)
in_first n (m ∷ ns) is = let e : m ≡ n = cc in inl (sym e)

-- the connections that have it in their line are this one
pub of_line : {b : Since} (k : Conn) (e : Exchange) (s : State) → Sound b s → (o : Opens k e s) → (j : Conn) (m : ℕ) → IsIn j s.conns → m ≡ e.number → IsIn m j.line → j ≡ o.was
of_line k e s h o j m i is l =
    one_of conn_number s.conns j o.was (facts_of h).lines.rise i o.there
    (own_line o.was s o.there h e j o.given (in_first e.number o.was.line o.front) i (subst (λ x. IsIn x j.line) is l))

begun_sound : {b : Since} (k : Conn) (e : Exchange) (head : Response) (rule : BodyRule) (s : State) → b.excepts ≡ None → (o : Opens k e s) → o.was.answer ≡ None → Sound b s
    → Sound (but b e.number) (on_conn k.number (answered_by (answer_with e head rule)) s)
unfolding on_conn
begun_sound {b} k e head rule s none o no_answer h = sound (answered (but b e.number) s k.number (answered_by (answer_with e head rule)) (λ j. refl) (λ j. refl) unbound (facts_of (set_apart e.number s none h)))
  where
    facts : FactsOf b s
    facts = facts_of h

    unbound : (j : Conn) (d : Exchange) → IsIn j s.conns → j.number ≡ k.number → IsIn d s.exchanges → IsIn d.number j.line → ¬ (Some e.number ≡ Some d.number) → bound_of d ≡ None
    unbound j d i number at l apart = others_unbound o.was e.number s none o.there o.front h j d i (number ∙ sym o.number) at l (λ is. apart (ap (λ x. Some x) (sym is)))

unbound_first : {b : Since} (k : Conn) (e : Exchange) (s : State) → b.excepts ≡ None → (o : Opens k e s) → o.was.answer ≡ None → Sound b s → bound_of e ≡ None
unbound_first {b} k e s none o no_answer h = bound_by (bound_of e) never
  where
    never : (to : Bound) → bound_of e ≡ Some to → ⊥
    never to is =
        let w = (facts_of h).brings o.was e to o.there o.given (in_first e.number o.was.line o.front) is (never_none e.number b.excepts none) in
        let both : None ≡ Some w.answer = sym no_answer ∙ w.is in cc both

begun_before : {b : Since} (k : Conn) (e : Exchange) (head : Response) (rule : BodyRule) (s : State) → b.excepts ≡ None → (o : Opens k e s) → o.was.answer ≡ None → Sound b s
    → Before (but b e.number) e (on_conn k.number (answered_by (answer_with e head rule)) s)
unfolding on_conn
begun_before {b} k e head rule s none o no_answer h = record {
  apart = refl;
  is_sound = begun_sound k e head rule s none o no_answer h;
  key = λ d i is. ap key_of (one d i is);
  aim = λ d i is. ap (λ (x : Exchange). x.aim) (one d i is);
  place = λ d i is no_place. let both : None ≡ Some o.was.number = sym no_place ∙ ap (λ (x : Exchange). x.place) (one d i is) ∙ (facts_of h).placed o.was e o.there o.given (in_first e.number o.was.line o.front) in cc both;
  unbound = λ d i is. ap bound_of (one d i is) ∙ unbound_first k e s none o no_answer h;
}
  where
    one : (d : Exchange) → IsIn d s.exchanges → d.number ≡ e.number → d ≡ e
    one d i is = one_of exchange_number s.exchanges d e (facts_of h).asks.rise i o.given is

begun_others : {b : Since} (k : Conn) (e : Exchange) (head : Response) (rule : BodyRule) (s : State) → b.excepts ≡ None → (o : Opens k e s) → o.was.answer ≡ None → Sound b s
    → OthersUnbound k.number e.number (on_conn k.number (answered_by (answer_with e head rule)) s)
unfolding on_conn
begun_others {b} k e head rule s none o no_answer h j d i number at l apart = by (in_change (is_conn k.number) (answered_by (answer_with e head rule)) j s.conns i)
  where
    was : OthersUnbound o.was.number e.number s
    was = others_unbound o.was e.number s none o.there o.front h

    by : Changed (is_conn k.number) (answered_by (answer_with e head rule)) s.conns j → bound_of d ≡ None
    by (same m isnt) = was j d m (number ∙ sym o.number) at l apart
    by (other g m hit eq) = was g d m (sym (ap conn_number eq) ∙ number ∙ sym o.number) at (subst (λ (x : Conn). IsIn d.number x.line) eq l) apart

-- the connection that has it in its line has the answer
pub begun_brings : {b : Since} (k : Conn) (e : Exchange) (f : Conn → Conn) (a : Answer) (s : State) → ((j : Conn) → (f j).line ≡ j.line) → ((j : Conn) → (f j).answer ≡ Some a) → (o : Opens k e s) → Sound b s
    → (j : Conn) (m : ℕ) → IsIn j (change (is_conn k.number) f s.conns) → m ≡ e.number → IsIn m j.line → (first_of j.line ≡ Some e.number) × (j.answer ≡ Some a)
begun_brings {b} k e f a s line answer o h j m i is l = by (in_change (is_conn k.number) f j s.conns i)
  where
    by : Changed (is_conn k.number) f s.conns j → (first_of j.line ≡ Some e.number) × (j.answer ≡ Some a)
    by (same at isnt) =
        let eq : j ≡ o.was = of_line k e s h o j m at is l in
        let both : true ≡ false = sym (number_same k.number) ∙ ap (λ x. x == k.number) (sym (ap conn_number eq ∙ o.number)) ∙ isnt in absurd (cc both)
    by (other g at hit eq) =
        let g_is : g ≡ o.was = of_line k e s h o g m at is (subst (λ ns. IsIn m ns) (ap (λ (x : Conn). x.line) eq ∙ line g) l) in
        (ap (λ (x : Conn). first_of x.line) eq ∙ ap first_of (line g) ∙ ap (λ (x : Conn). first_of x.line) g_is ∙ o.front, ap (λ (x : Conn). x.answer) eq ∙ answer g)

end_if_empty-sound : {b : Since} (k : Conn) (e : Exchange) (a : Answer) (s t : State) → Behind (but b e.number) a e s t → OthersUnbound k.number e.number s
    → ((j : Conn) (m : ℕ) → IsIn j s.conns → m ≡ e.number → IsIn m j.line → (first_of j.line ≡ Some e.number) × (j.answer ≡ Some a)) → Sound b (end_if_empty k e a t)
unfolding end_if_empty
end_if_empty-sound {b} k e a s t p others brings = by_outcome (body_of a.rule []).outcome (λ rest. finish-sound k e a t (others_behind k.number s t p others) p.is_sound) back back
  where
    back : Sound b t
    back = set_back e.number t (λ j d to i m is l bound.
        let w = brings j d.number (subst (λ ks. IsIn j ks) p.conns i) is l in
        record { front = w.0 ∙ ap (λ x. Some x) (sym is); answer = a; is = w.1; fits = λ x n id. p.starts d to x m is bound n id }) p.is_sound

pub begin_answer-sound : {b : Since} (k : Conn) (e : Exchange) (head : Response) (rule : BodyRule) (s : State) → b.excepts ≡ None → IsEmptyAt304 head rule → (o : Opens k e s) → o.was.answer ≡ None → Sound b s
    → Sound b (begin_answer k e head rule s)
unfolding begin_answer on_conn
begin_answer-sound {b} k e head rule s none empty o no_answer h =
    end_if_empty-sound k e (answer_with e head rule) (on_conn k.number (answered_by (answer_with e head rule)) s) _
    (by_aim-behind e head rule (on_conn k.number (answered_by (answer_with e head rule)) s) empty (begun_before k e head rule s none o no_answer h))
    (begun_others k e head rule s none o no_answer h)
    (begun_brings k e (answered_by (answer_with e head rule)) (answer_with e head rule) s (λ j. refl) (λ j. refl) o h)
