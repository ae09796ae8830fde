-- What is decided, begun and ended for clients keeps the lines.
use Rattle.std.proofs.Common.{refl, ℕ, false, not, ◌&&◌, map, Some, None}
use Rattle.pp_ask.specs.declared.kind.AskKind.{AskKind}
use Rattle.pp_head.specs.Request.{Request}
use Rattle.pp_target.specs.Key.{Key, text_of}
use Rattle.pp_world.specs.declared.note.Decision.{Decision}
use Rattle.pp_world.specs.declared.note.Decision.TheVariants.{Refuse, Hit, Part, Head, NotModified, Unsatisfiable, Relay, Validate, Fetch, Pass}
use Rattle.pp_law.specs.Closing.{is_of, forsake, leave}
use Rattle.pp_law.specs.Connections.{on_client}
use Rattle.pp_law.specs.Deciding.{refused_with, refuse, new_exchange, asking_with, ask_for, ask_as, ask_origin, reply_by, answering_with, serves, follow_with, follow_row, follow, relay, decided_by, decided, enter_row}
use Rattle.pp_law.specs.Decisions.{kind_of}
use Rattle.pp_law.specs.Replies.{begun_at_end, is_outrun, begin_replies, is_said, next_request, end_reply, end_said, close_finished, end_replies}
use Rattle.pp_law.specs.Requests.{key_in}
use Rattle.pp_law.specs.State.{State, Client}
use Rattle.pp_law.specs.Table.{row, row_for}
use Rattle.pp_laws_lines.proofs.Cases.{by_front, by_result, each_of, when}
use Rattle.pp_laws_lines.proofs.Lined.{IsPlain, Lined, facts_of, lined}
use Rattle.pp_laws_lines.proofs.LinedAsks.{begin_exchange-lined, close_client-lined, each_client-lined, forsake-lined, leave-lined, on_client-lined, swept-lined, text_some}
use Rattle.pp_laws_lines.proofs.LinedTurns.{close_finished-lined, enter_row-lined}
use Rattle.pp_laws_lines.proofs.Stands.{Since}

-- ---- a reply is over

end_reply-lined : {b : Since} (c : Client) (s : State) → Lined b s → Lined b (end_reply c s)
unfolding end_reply
end_reply-lined c s h = when c.closes (close_client-lined c.number false s h) (swept-lined _ (forsake-lined (is_of c.number) _ (on_client-lined c.number next_request s h)))

end_said-lined : {b : Since} (c : Client) (s : State) → Lined b s → Lined b (end_said c s)
unfolding end_said
end_said-lined c s h = when (is_said c && not c.is_closing) (end_reply-lined c s h) h

pub end_replies-lined : {b : Since} (s : State) → Lined b s → Lined b (end_replies s)
unfolding end_replies
end_replies-lined s h = each_client-lined close_finished (λ c t ht. close_finished-lined c t ht) _ _ (each_client-lined end_said (λ c t ht. end_said-lined c t ht) _ s h)

-- ---- what is decided

refuse-lined : {b : Since} (c : Client) (status : ℕ) (s : State) → Lined b s → Lined b (refuse c status s)
unfolding refuse
refuse-lined c status s h = swept-lined _ (leave-lined (is_of c.number) _ (on_client-lined c.number (refused_with status) s h))

ask_for-lined : {b : Since} (c : Client) (d : Decision) (head : Request) (key : Key) (kind : AskKind) (s : State) → IsPlain b → Lined b s → Lined b (ask_for c d head key kind s)
unfolding ask_for leave forsake on_client
ask_for-lined c d head key kind s p h =
    swept-lined _
    (begin_exchange-lined (new_exchange s c head key d kind) _ p.kept refl (text_some kind head key s.settings.name)
    (leave-lined (is_of c.number) (on_client c.number (asking_with d) s) (on_client-lined c.number (asking_with d) s h)))

ask_origin-lined : {b : Since} (c : Client) (d : Decision) (s : State) → IsPlain b → Lined b s → Lined b (ask_origin c d s)
unfolding ask_origin ask_as
ask_origin-lined c d s p h = by_front c.front h (λ status. h) (λ r. by_result r.key (λ key. each_of (kind_of r.head (row_for s r.head (text_of key)) d) h (λ kind. ask_for-lined c d r.head key kind s p h)) (λ fault. h))

follow-lined : {b : Since} (c : Client) (d : Decision) (s : State) → Lined b s → Lined b (follow c d s)
unfolding follow follow_row follow_with
follow-lined c d s h =
    each_of (key_in c.front) h
    (λ key. each_of (row s (text_of key)) h (λ x. swept-lined _ (leave-lined (λ e. is_of c.number e && not (serves x (reply_by d (Some x.id)) e)) _ (on_client-lined c.number (answering_with (reply_by d (Some x.id))) s h))))

relay-lined : {b : Since} (c : Client) (s : State) → Lined b s → Lined b (relay c s)
unfolding relay
relay-lined c s h = swept-lined _ (on_client-lined c.number (answering_with (reply_by Relay None)) s h)

decided_by-lined : {b : Since} (c : Client) (d : Decision) (s : State) → IsPlain b → Lined b s → Lined b (decided_by c d s)
unfolding decided_by
decided_by-lined c (Refuse status) s p h = refuse-lined c status s h
decided_by-lined c Pass s p h = ask_origin-lined c Pass s p h
decided_by-lined c Fetch s p h = ask_origin-lined c Fetch s p h
decided_by-lined c Validate s p h = ask_origin-lined c Validate s p h
decided_by-lined c Relay s p h = relay-lined c s h
decided_by-lined c (Hit from to) s p h = follow-lined c (Hit from to) s h
decided_by-lined c (Part from to) s p h = follow-lined c (Part from to) s h
decided_by-lined c Head s p h = follow-lined c Head s h
decided_by-lined c NotModified s p h = follow-lined c NotModified s h
decided_by-lined c Unsatisfiable s p h = follow-lined c Unsatisfiable s h

pub decided-lined : {b : Since} (c : Client) (d : Decision) (s : State) → IsPlain b → Lined b s → Lined b (decided c d s)
unfolding decided
decided-lined c d s p h = decided_by-lined c d (enter_row c d s) p (enter_row-lined c d s h)

-- ---- replies begin

pub begin_replies-lined : {b : Since} (s : State) → Lined b s → Lined b (begin_replies s)
unfolding begin_replies
begin_replies-lined s h = swept-lined _ (forsake-lined (is_outrun s) (record s { clients = map (begun_at_end s) s.clients }) (lined (facts_of h)))
