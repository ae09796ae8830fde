-- A reply that begins, is said or is over, and a request that is heard.
use Rattle.std.proofs.Common.{◌≡◌, refl, ℕ, ◌+◌, ◌-◌, nat_le, Bool, true, false, ◌==◌, ◌&&◌, not, List, [], ◌∷◌, ◌++◌, map, length, drop, ◌≤◌, Option, Some, None, sym, subst, ◌∙◌}
use Rattle.pp_pass.specs.Pipe.{without_first}
use Rattle.pp_reply.specs.Keeping.{is_end_known}
use Rattle.pp_text.specs.Bytes.{is_empty}
use Rattle.pp_world.specs.declared.note.Decision.{Decision}
use Rattle.pp_world.specs.declared.note.Decision.TheVariants.{Pass}
use Rattle.pp_law.specs.Closing.{close_client, forsake, is_of}
use Rattle.pp_law.specs.Connections.{client, each_client, is_client, on_client}
use Rattle.pp_law.specs.Hearing.{fronted, heard_by, what_counts}
use Rattle.pp_law.specs.Lists.{Bytes}
use Rattle.pp_law.specs.Offers.{body_part, offer}
use Rattle.pp_law.specs.Replies.{begin_replies, begun_at_end, begun_by, begun_decided, begun_instance, begun_passed, begun_reply, close_finished, end_replies, end_reply, end_said, is_outrun, is_said, kept_source, may_begin, next_request, passed_reply, said_by, said_of, said_of_body}
use Rattle.pp_law.specs.Requests.{Front, Parsed, NoHeadYet, NoHead as NoFront, IsRequest, keeps_open}
use Rattle.pp_law.specs.Stages.{is_passing, on_passed, passed_of, reply_of}
use Rattle.pp_law.specs.State.{State, Client, Instance, Passed, Passes, Reply, Stage, Undecided, Waiting, Passing, Answering}
use Rattle.pp_law.specs.Table.{source_of, swept}
use Rattle.pp_laws_replies.proofs.Quiet.{quiet_same}
use Rattle.pp_laws_replies.proofs.QuietAsks.{close_client-quiet, forsake-quiet}
use Rattle.pp_laws_replies.proofs.QuietRows.{swept-quiet}
use Rattle.pp_laws_replies.proofs.QuietTurns.{close_finished-quiet}
use Rattle.pp_laws_decided.proofs.Fits.{Fit, Fits, FitsIn, changed_fits, mapped_fits, quiet_fits, same_fits}

one_reply : {p r : Reply} → Answering p ≡ Answering r → p ≡ r
one_reply e = cc e

-- its reply has begun, or its interim answer is left to say
abbrev pub IsAmid : Client → Type 0
IsAmid c = is_empty c.interim_left ≡ true → (r : Reply) → c.stage ≡ Answering r → r.has_begun ≡ true

-- so it is where anything is offered
pub offered_amid : (s : State) (c : Client) → (offer s c ≡ [] → ⊥) → IsAmid c
offered_amid s c some none r at = by (is_empty c.interim_left) none some
  where
    begun : (t : Bool) → ((elim t as (λ x. Bytes) [ false ↦ [] | true ↦ r.head_left ++ body_part s c r ]) ≡ [] → ⊥) → t ≡ true
    begun true off = refl
    begun false off = absurd (off refl)

    by_stage : (stage : Stage) → stage ≡ Answering r
        → ((elim (elim stage as (λ x. Option Reply) [ Undecided ↦ None | Waiting ↦ None | Passing ↦ None | Answering q ↦ Some q ]) as (λ y. Bytes) [ None ↦ [] | Some q ↦ elim q.has_begun as (λ z. Bytes) [ false ↦ [] | true ↦ q.head_left ++ body_part s c q ] ]) ≡ [] → ⊥)
        → r.has_begun ≡ true
    by_stage Undecided is off = absurd (cc is)
    by_stage Waiting is off = absurd (cc is)
    by_stage Passing is off = absurd (cc is)
    by_stage (Answering q) is off = let e : q ≡ r = one_reply is in begun r.has_begun (subst (λ (x : Reply). (elim x.has_begun as (λ z. Bytes) [ false ↦ [] | true ↦ x.head_left ++ body_part s c x ]) ≡ [] → ⊥) e off)

    by : (t : Bool) → t ≡ true → ((elim t as (λ x. Bytes) [ false ↦ c.interim_left | true ↦ elim (reply_of c) as (λ y. Bytes) [ None ↦ [] | Some q ↦ elim q.has_begun as (λ z. Bytes) [ false ↦ [] | true ↦ q.head_left ++ body_part s c q ] ] ]) ≡ [] → ⊥) → r.has_begun ≡ true
    by true is off = by_stage c.stage at off
    by false is off = absurd (cc is)

module _ (instances : List Instance) (next : ℕ) where
  -- ---- replies that have begun

  -- it follows nothing
  pub unread : (f : Front) (r : Reply) → r.has_begun ≡ true → r.source ≡ None → Fit instances next f r
  unread f r on none = record {
    chosen = λ off. let both : true ≡ false = sym on ∙ off in absurd (cc both);
    given = λ id is. let both : None ≡ Some id = sym none ∙ is in absurd (cc both);
    within = λ id x is. let both : None ≡ Some id = sym none ∙ is in absurd (cc both);
  }

  -- it follows what it did, or nothing any more, and no further
  further : (f : Front) (q r : Reply) → q.has_begun ≡ true → ((id : ℕ) → q.source ≡ Some id → r.source ≡ Some id) → q.to ≡ r.to → Fit instances next f r → Fit instances next f q
  further f q r on source to h = record {
    chosen = λ off. let both : true ≡ false = sym on ∙ off in absurd (cc both);
    given = λ id is. h.given id (source id is);
    within = λ id x is i its. subst (λ n. n ≤ x.version.length) (sym to) (h.within id x (source id is) i its);
  }

  pub as_stage : (c : Client) (q : Reply) → Fit instances next c.front q → FitsIn instances next (record c { stage = Answering q })
  as_stage c q h r is = subst (λ (x : Reply). Fit instances next c.front x) (one_reply is) h

  -- ---- it begins

  passed_fits : (s : State) (q : Parsed) (d : Decision) (c : Client) → FitsIn instances next c → FitsIn instances next (begun_passed s q d c)
  passed_fits s q d c h = by (passed_of c)
    where
      by : (o : Option Passed) → FitsIn instances next (elim o as (λ x. Client) [
        | None ↦ c
        | Some p ↦ record c { stage = Answering (passed_reply s q p d); closes = not (keeps_open q && is_end_known p.rule q.head.minor) }
      ])
      by None = h
      by (Some p) = λ r is. subst (λ (x : Reply). Fit instances next c.front x) (one_reply is) (unread c.front (passed_reply s q p d) refl refl)

  kept_is : (r : Reply) (id : ℕ) → kept_source r ≡ Some id → r.source ≡ Some id
  kept_is r id = by (r.at == r.to)
    where
      by : (t : Bool) → (elim t as (λ x. Option ℕ) [ true ↦ None | false ↦ r.source ]) ≡ Some id → r.source ≡ Some id
      by true is = absurd (cc is)
      by false is = is

  read_fits : (s : State) (q : Parsed) (r : Reply) (c : Client) → c.stage ≡ Answering r → FitsIn instances next c → FitsIn instances next (begun_instance s q r c)
  read_fits s q r c at h = by (source_of s r)
    where
      by_may : (x : Instance) (t : Bool) → FitsIn instances next (elim t as (λ y. Client) [ true ↦ record c { stage = Answering (begun_reply s q c r x) } | false ↦ c ])
      by_may x true = as_stage c (begun_reply s q c r x) (further c.front (begun_reply s q c r x) r refl (λ id is. kept_is r id is) refl (h r at))
      by_may x false = h

      by : (o : Option Instance) → FitsIn instances next (elim o as (λ y. Client) [
        | None ↦ c
        | Some x ↦ elim (may_begin s r x) as (λ z. Client) [ true ↦ record c { stage = Answering (begun_reply s q c r x) } | false ↦ c ]
      ])
      by None = h
      by (Some x) = by_may x (may_begin s r x)

  pub begun_fits : (s : State) (c : Client) → FitsIn instances next c → FitsIn instances next (begun_at_end s c)
  begun_fits s c h = by_closing c.is_closing
    where
      by_passing : (q : Parsed) (r : Reply) (t : Bool) → c.stage ≡ Answering r → FitsIn instances next (elim t as (λ y. Client) [ true ↦ begun_passed s q r.decision c | false ↦ begun_instance s q r c ])
      by_passing q r true at = passed_fits s q r.decision c h
      by_passing q r false at = read_fits s q r c at h

      by_reply : (q : Parsed) (r : Reply) (t : Bool) → c.stage ≡ Answering r → FitsIn instances next (elim t as (λ y. Client) [ true ↦ c | false ↦ begun_decided s q r c ])
      by_reply q r true at = h
      by_reply q r false at = by_passing q r (is_passing r.decision) at

      by_stage : (q : Parsed) (stage : Stage) → c.stage ≡ stage → FitsIn instances next (elim stage as (λ y. Client) [
        | Undecided ↦ c
        | Waiting ↦ c
        | Passing ↦ begun_passed s q Pass c
        | Answering reply ↦ elim reply.has_begun as (λ z. Client) [ true ↦ c | false ↦ begun_decided s q reply c ]
      ])
      by_stage q Undecided at = h
      by_stage q Waiting at = h
      by_stage q Passing at = passed_fits s q Pass c h
      by_stage q (Answering r) at = by_reply q r r.has_begun at

      by_front : (front : Front) → FitsIn instances next (elim front as (λ y. Client) [ NoHeadYet ↦ c | NoFront status ↦ c | IsRequest r ↦ begun_by s r c ])
      by_front NoHeadYet = h
      by_front (NoFront status) = h
      by_front (IsRequest q) = by_stage q c.stage refl

      by_closing : (t : Bool) → FitsIn instances next (elim t as (λ y. Client) [ true ↦ c | false ↦ elim c.front as (λ z. Client) [ NoHeadYet ↦ c | NoFront status ↦ c | IsRequest r ↦ begun_by s r c ] ])
      by_closing true = h
      by_closing false = by_front c.front

  -- ---- it is said

  passing_fits : (f : Passed → Passed) (c : Client) → FitsIn instances next c → FitsIn instances next (on_passed f c)
  passing_fits f c h = by (passed_of c)
    where
      by : (o : Option Passed) → FitsIn instances next (elim o as (λ x. Client) [ None ↦ c | Some p ↦ record c { brought = Passes (f p) } ])
      by None = h
      by (Some p) = h

  said_body_fits : (n : ℕ) (q r : Reply) (c : Client) → q.has_begun ≡ true → q.source ≡ r.source → q.to ≡ r.to → Fit instances next c.front r → FitsIn instances next (said_of_body n q c)
  said_body_fits n q r c on source to h = by (is_passing q.decision)
    where
      by : (t : Bool) → FitsIn instances next (elim t as (λ x. Client) [
        | true ↦ on_passed (λ p. record p { pipe = without_first n p.pipe }) (record c { stage = Answering q })
        | false ↦ record c { stage = Answering (record q { at = q.at + n }) }
      ])
      by true = passing_fits (λ p. record p { pipe = without_first n p.pipe }) (record c { stage = Answering q }) (as_stage c q (further c.front q r on (λ id is. sym source ∙ is) to h))
      by false = as_stage c (record q { at = q.at + n }) (further c.front (record q { at = q.at + n }) r on (λ id is. sym source ∙ is) to h)

  said_reply_fits : (n : ℕ) (r : Reply) (c : Client) → r.has_begun ≡ true → Fit instances next c.front r → FitsIn instances next (said_of n r c)
  said_reply_fits n r c on h = by (nat_le n (length r.head_left))
    where
      by : (t : Bool) → FitsIn instances next (elim t as (λ x. Client) [
        | true ↦ record c { stage = Answering (record r { head_left = drop n r.head_left }) }
        | false ↦ said_of_body (n - length r.head_left) (record r { head_left = [] }) c
      ])
      by true = as_stage c (record r { head_left = drop n r.head_left }) (further c.front (record r { head_left = drop n r.head_left }) r on (λ id is. is) refl h)
      by false = said_body_fits (n - length r.head_left) (record r { head_left = [] }) r c on refl refl h

  -- nothing is said of a reply that has not begun but its interim answer
  pub said_fits : (n : ℕ) (c : Client) → IsAmid c → FitsIn instances next c → FitsIn instances next (said_by n c)
  said_fits n c amid h = by (is_empty c.interim_left) refl
    where
      by_reply : (stage : Stage) → is_empty c.interim_left ≡ true → c.stage ≡ stage
          → FitsIn instances next (elim (elim stage as (λ x. Option Reply) [ Undecided ↦ None | Waiting ↦ None | Passing ↦ None | Answering r ↦ Some r ]) as (λ y. Client) [ None ↦ c | Some r ↦ said_of n r c ])
      by_reply Undecided none at = h
      by_reply Waiting none at = h
      by_reply Passing none at = h
      by_reply (Answering r) none at = said_reply_fits n r c (amid none r at) (h r at)

      by : (t : Bool) → is_empty c.interim_left ≡ t
          → FitsIn instances next (elim t as (λ x. Client) [ false ↦ record c { interim_left = drop n c.interim_left } | true ↦ elim (reply_of c) as (λ y. Client) [ None ↦ c | Some r ↦ said_of n r c ] ])
      by true none = by_reply c.stage none refl
      by false some = h

  -- ---- a request is heard, or is next

  heard_stage : (c : Client) (front : Front) → (elim front as (λ x. Client) [ NoHeadYet ↦ fronted c | NoFront status ↦ c | IsRequest r ↦ c ]).stage ≡ c.stage
  heard_stage c NoHeadYet = refl
  heard_stage c (NoFront status) = refl
  heard_stage c (IsRequest r) = refl

  heard_front : (c : Client) (front : Front) (q : Parsed) → front ≡ IsRequest q → (elim front as (λ x. Client) [ NoHeadYet ↦ fronted c | NoFront status ↦ c | IsRequest r ↦ c ]).front ≡ c.front
  heard_front c NoHeadYet q is = absurd (cc is)
  heard_front c (NoFront status) q is = absurd (cc is)
  heard_front c (IsRequest r) q is = refl

  pub heard_fits : (bytes : Bytes) (c : Client) → FitsIn instances next c → FitsIn instances next (heard_by bytes c)
  heard_fits bytes c h = same_fits instances next (heard_by bytes c) c (λ q is. heard_front more c.front q is ∙ is) (heard_stage more c.front) h
    where
      more : Client
      more = record c { heard = c.heard ++ what_counts c.front (drop c.skip bytes); skip = c.skip - length bytes }

  none_yet : (c : Client) → c.stage ≡ Undecided → FitsIn instances next c
  none_yet c at r is = let both : Undecided ≡ Answering r = sym at ∙ is in absurd (cc both)

-- ---- replies begin at the end of a turn

begun_clients : State → State
begun_clients s = record s { clients = map (begun_at_end s) s.clients }

pub begin_replies_fits : (s : State) → Fits s → Fits (begin_replies s)
unfolding begin_replies begun_clients
begin_replies_fits s h =
    quiet_fits (begun_clients s) _ (swept-quiet _ (forsake-quiet (is_outrun s) (begun_clients s) (quiet_same (begun_clients s))))
    (mapped_fits s (begun_at_end s) (λ c i fit. begun_fits s.instances s.next_instance s c fit) h)

-- ---- and are over

end_reply_fits : (c : Client) (s : State) → Fits s → Fits (end_reply c s)
unfolding end_reply on_client
end_reply_fits c s h = by c.closes
  where
    by : (closes : Bool) → Fits (elim closes as (λ x. State) [
      | true ↦ close_client c.number false s
      | false ↦ swept (forsake (is_of c.number) (on_client c.number next_request s))
    ])
    by true = quiet_fits s _ (close_client-quiet c.number false s (quiet_same s)) h
    by false =
        quiet_fits (on_client c.number next_request s) _ (swept-quiet _ (forsake-quiet (is_of c.number) (on_client c.number next_request s) (quiet_same (on_client c.number next_request s))))
        (changed_fits s (is_client c.number) next_request (λ d i hit fit. none_yet s.instances s.next_instance (next_request d) refl) h)

end_said_fits : (c : Client) (s : State) → Fits s → Fits (end_said c s)
unfolding end_said
end_said_fits c s h = by (is_said c && not c.is_closing)
  where
    by : (t : Bool) → Fits (elim t as (λ x. State) [ true ↦ end_reply c s | false ↦ s ])
    by true = end_reply_fits c s h
    by false = h

each_client_fits : (f : Client → State → State) → ((c : Client) (s : State) → Fits s → Fits (f c s)) → (ns : List ℕ) (s : State) → Fits s → Fits (each_client f ns s)
unfolding each_client
each_client_fits f each [] s h = h
each_client_fits f each (n ∷ ns) s h = each_client_fits f each ns _ (by (client s n))
  where
    by : (o : Option Client) → Fits (elim o as (λ x. State) [ None ↦ s | Some c ↦ f c s ])
    by None = h
    by (Some c) = each c s h

pub end_replies_fits : (s : State) → Fits s → Fits (end_replies s)
unfolding end_replies
end_replies_fits s h = each_client_fits close_finished (λ c t ht. quiet_fits t _ (close_finished-quiet c t (quiet_same t)) ht) _ _ (each_client_fits end_said end_said_fits _ s h)
