-- The bytes of a body that came keep it.
use Rattle.std.proofs.Common.{◌≡◌, refl, ℕ, ◌+◌, Bool, true, false, not, drop, length, [], ◌++◌, Option, Some, None, sym, ap, ◌∙◌, le_refl}
use Rattle.pp_framing.specs.Body.{Outcome, Done as IsDone, Going, Bad}
use Rattle.pp_framing.specs.Rules.{body_of}
use Rattle.pp_pass.specs.Pipe.{Pipe, with_data}
use Rattle.pp_text.specs.Bytes.{is_empty}
use Rattle.pp_law.specs.Connections.{close_conn, front_of_line, on_conn}
use Rattle.pp_law.specs.Lists.{Bytes}
use Rattle.pp_law.specs.OwnHeads.{join, joined_one, join_bound, moved_on, note_own, note_sent}
use Rattle.pp_law.specs.Passing.{pour, poured}
use Rattle.pp_law.specs.Responses.{Piece, bad_response, body_piece, body_piece_of, deliver, finish, payload_of}
use Rattle.pp_law.specs.Stages.{bound_in, bound_of, is_pending, on_passed}
use Rattle.pp_law.specs.State.{State, Answer, Body, Pending, Joining, Relaying, Dropping, Bound, Conn, Exchange, Passed}
use Rattle.pp_law.specs.Table.{instance}
use Rattle.pp_law.specs.Chunks.{note_use}
use Rattle.pp_laws_turn.proofs.Cases.{by_aim_of, each_of, when}
use Rattle.pp_laws_turn.proofs.Clients.{pour-keeps}
use Rattle.pp_laws_turn.proofs.Exchanges.{on_exchange-keeps, same_ask}
use Rattle.pp_laws_turn.proofs.View.{Holds, SameAsk as SameAsked, View, facts_of, holds}
use Rattle.pp_laws_coming.proofs.Pieces.{bad_response-comes, finish-comes, front_in}
use Rattle.pp_laws_coming.proofs.Asks.{SameAsk, as_it_was, ask_same}
use Rattle.pp_laws_coming.proofs.Clients.{on_client_of-comes, on_exchange-comes}
use Rattle.pp_laws_coming.proofs.Facts.{Early}
use Rattle.pp_laws_coming.proofs.Its.{Its, its_walk, only_its}
use Rattle.pp_laws_coming.proofs.Lost.{close_conn-early, on_conn-comes}
use Rattle.pp_laws_coming.proofs.Said.{passed_goes}

-- ---- bodies

note_sent-any : {P : View → Type 0} (e : Exchange) (a : Answer) (at : ℕ) (bytes : Bytes) (s : State) → Holds P s → Holds P (note_sent e a at bytes s)
unfolding note_sent note_own
note_sent-any e a at bytes s h = by_aim_of e.aim h (when (is_empty bytes) h (holds (facts_of h))) (λ v from to. when (is_empty bytes) h (holds (facts_of h)))

join-any : {P : View → Type 0} (b : Bound) (bytes : Bytes) (s : State) → Holds P s → Holds P (join b bytes s)
unfolding join note_use
join-any b bytes s h = each_of (joined_one b bytes s) h (λ x. holds (facts_of h))

moved_ask : (m : ℕ) (e : Exchange) → SameAsk false (moved_on m e) e
moved_ask m e = by e.body refl
  where
    by : (body : Body) → e.body ≡ body → SameAsk false (elim (bound_in body) as (λ c. Exchange) [ None ↦ e | Some b ↦ record e { body = Joining (record b { next = b.next + m }) } ]) e
    by Pending is = ask_same e
    by Relaying is = ask_same e
    by Dropping is = ask_same e
    by (Joining b) is = as_it_was _ e refl refl refl (sym (ap (λ (x : Body). not (is_pending x)) is)) refl refl (le_refl e.body_left) (λ to at. record { to = record b { next = b.next + m }; is = refl; instance = (let both : Some b ≡ Some to = sym (ap bound_in is) ∙ at in let one : b ≡ to = cc both in ap (λ (y : Bound). y.instance) one) }) (λ was. was)

moved_asked : (m : ℕ) (e : Exchange) → SameAsked (moved_on m e) e
moved_asked m e = by (bound_of e)
  where
    by : (o : Option Bound) → SameAsked (elim o as (λ c. Exchange) [ None ↦ e | Some b ↦ record e { body = Joining (record b { next = b.next + m }) } ]) e
    by None = same_ask e e refl refl refl refl refl refl (λ is. is)
    by (Some b) = same_ask _ e refl refl refl refl refl refl (λ is. is)

join_bound-comes : (e : Exchange) (bytes : Bytes) (s : State) → Holds Early s → Holds Early (join_bound e bytes s)
unfolding join_bound
join_bound-comes e bytes s h = each_of (bound_of e) h (λ b. on_exchange-comes e.number (moved_on (length bytes)) _ (λ x i hit. moved_ask (length bytes) x) (join-any b bytes s h))

join_bound-its : (d e : Exchange) (bytes : Bytes) (s : State) → Holds (Its d) s → Holds (Its d) (join_bound e bytes s)
unfolding join_bound
join_bound-its d e bytes s h = each_of (bound_of e) h (λ b. on_exchange-keeps (its_walk d) e.number (moved_on (length bytes)) _ (moved_asked (length bytes)) (join-any b bytes s h))

abbrev with_poured : Bytes → Passed → Passed
with_poured bytes p = record p { pipe = poured bytes p.pipe }

poured_goes : (bytes : Bytes) (p : Passed) → (with_poured bytes p).pipe.is_finished ≡ p.pipe.is_finished
poured_goes bytes p = by (is_empty bytes)
  where
    by : (t : Bool) → (elim t as (λ x. Pipe) [ true ↦ p.pipe | false ↦ with_data bytes p.pipe ]).is_finished ≡ p.pipe.is_finished
    by true = refl
    by false = refl

deliver-comes : (e : Exchange) (a : Answer) (at : ℕ) (bytes : Bytes) (s : State) → Holds Early s → Holds Early (deliver e a at bytes s)
unfolding deliver pour
deliver-comes e a at bytes s h = on_client_of-comes e (on_passed (with_poured bytes)) _ (passed_goes (with_poured bytes) (poured_goes bytes)) (join_bound-comes e bytes _ (note_sent-any e a at bytes s h))

deliver-its : (d e : Exchange) (a : Answer) (at : ℕ) (bytes : Bytes) (s : State) → Holds (Its d) s → Holds (Its d) (deliver e a at bytes s)
unfolding deliver
deliver-its d e a at bytes s h = pour-keeps (its_walk d) e (poured bytes) _ (join_bound-its d e bytes _ (note_sent-any e a at bytes s h))

body_piece_by : (k : Conn) (a : Answer) (e : Exchange) (bytes : Bytes) (t : State) (outcome : Outcome) → Holds (Its e) t → Holds Early t
    → Holds Early (elim outcome as (λ c. Piece) [
      | Going ↦ record { state = on_conn k.number (λ i. record i { answer = Some (record a { raw = a.raw ++ bytes }) }) t; rest = [] }
      | Bad ↦ record { state = bad_response k t; rest = [] }
      | IsDone rest ↦ record { state = finish k e a t; rest = rest }
    ]).state
body_piece_by k a e bytes t Going only h = on_conn-comes k.number (λ i. record i { answer = Some (record a { raw = a.raw ++ bytes }) }) t h
body_piece_by k a e bytes t Bad only h = bad_response-comes k t h
body_piece_by k a e bytes t (IsDone rest) only h = finish-comes k e a t only h

pub body_piece-comes : (k : Conn) (a : Answer) (bytes : Bytes) (s : State) → Holds Early s → Holds Early (body_piece k a bytes s).state
body_piece-comes k a bytes s h = by (front_of_line s k) refl
  where
    by : (front : Option Exchange) → front_of_line s k ≡ front → Holds Early (elim front as (λ c. Piece) [ None ↦ record { state = close_conn false k s; rest = [] } | Some e ↦ body_piece_of k a e bytes s ]).state
    by None is = close_conn-early false k s h
    by (Some e) is =
        let at : ℕ = length (payload_of a) in
        let fresh : Bytes = drop at (body_of a.rule (a.raw ++ bytes)).payload in
        body_piece_by k a e bytes (deliver e a at fresh s) (body_of a.rule (a.raw ++ bytes)).outcome (deliver-its e e a at fresh s (only_its e s (front_in s k e is) h)) (deliver-comes e a at fresh s h)
