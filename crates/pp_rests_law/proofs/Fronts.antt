-- What is said of the request of each client stays so through replies, asks and decisions; and through what is heard, where it is so of each that is read.
use Rattle.std.proofs.Common.{◌≡◌, refl, ℕ, ◌+◌, ◌-◌, nat_le, Bool, true, false, ◌&&◌, not, List, [], ◌∷◌, ◌++◌, drop, filter, length, map, Option, Some, None, sym, subst, Result, Ok, Err}
use Rattle.pp_ask.specs.declared.kind.AskKind.{AskKind}
use Rattle.pp_head.specs.Request.{Request}
use Rattle.pp_law.specs.Closing.{close_client, forsake, is_of}
use Rattle.pp_law.specs.Connections.{client, each_client, is_client, on_client}
use Rattle.pp_law.specs.Deciding.{answering_with, ask_as, ask_for, ask_origin, asking_with, decided, decided_by, enter_row, follow, follow_row, follow_with, new_exchange, refuse, refused_with, relay, reply_by}
use Rattle.pp_law.specs.Decisions.{kind_of}
use Rattle.pp_law.specs.Hearing.{fronted, heard_by, what_counts}
use Rattle.pp_law.specs.Lists.{Bytes, change}
use Rattle.pp_law.specs.Replies.{begin_replies, begun_at_end, begun_by, begun_decided, begun_instance, begun_passed, begun_reply, close_finished, end_replies, end_reply, end_said, is_outrun, is_said, may_begin, next_request, passed_reply, said_by, said_of, said_of_body}
use Rattle.pp_law.specs.Requests.{Front, Parsed, NoHeadYet, NoHead as NoFront, IsRequest, front_of, keeps_open, key_in}
use Rattle.pp_law.specs.Stages.{is_passing, on_passed, passed_of, reply_of}
use Rattle.pp_law.specs.State.{State, Client, Instance, Passed, Passes, Reply, Stage, Undecided, Waiting, Passing, Answering}
use Rattle.pp_law.specs.Table.{row, row_for, source_of, swept}
use Rattle.pp_laws.proofs.Lists.{Changed, From, in_change, in_filter, in_map, other, same}
use Rattle.pp_laws.specs.Runs.{IsIn}
use Rattle.pp_laws_replies.proofs.Quiet.{FactsOf, FromClient, Quietly, facts_of, quiet_same}
use Rattle.pp_laws_replies.proofs.QuietAsks.{begin_exchange-quiet, close_client-quiet, forsake-quiet, leave-quiet}
use Rattle.pp_laws_replies.proofs.QuietRows.{swept-quiet}
use Rattle.pp_laws_replies.proofs.QuietTurns.{close_finished-quiet, enter_row-quiet}
use Rattle.pp_pass.specs.Pipe.{without_first}
use Rattle.pp_reply.specs.Keeping.{is_end_known}
use Rattle.pp_target.specs.Key.{Key, text_of}
use Rattle.pp_target.specs.declared.target.TargetFault.{TargetFault}
use Rattle.pp_text.specs.Bytes.{is_empty}
use Rattle.pp_world.specs.declared.note.Decision.{Decision}
use Rattle.pp_world.specs.declared.note.Decision.TheVariants.{Refuse, Hit, Part, Head, NotModified, Unsatisfiable, Relay, Validate, Fetch, Pass}

-- ---- what is said of the request of each client

pub data AreAll (Q : Front → Type 0) (s : State) : Type 0 where
  all_are : ((c : Client) → IsIn c s.clients → Q c.front) → AreAll Q s

pub all_of : {Q : Front → Type 0} {s : State} → AreAll Q s → (c : Client) → IsIn c s.clients → Q c.front
all_of (all_are all) = all

-- ---- a reply begins, and is said

passed_front : (s : State) (q : Parsed) (d : Decision) (c : Client) → (begun_passed s q d c).front ≡ c.front
passed_front s q d c = by (passed_of c)
  where
    by : (o : Option Passed) → (elim o as (λ x. Client) [
      | None ↦ c
      | Some p ↦ record c { stage = Answering (passed_reply s q p d); closes = not (keeps_open q && is_end_known p.rule q.head.minor) }
    ]).front ≡ c.front
    by None = refl
    by (Some p) = refl

read_front : (s : State) (q : Parsed) (r : Reply) (c : Client) → (begun_instance s q r c).front ≡ c.front
read_front s q r c = by (source_of s r)
  where
    by_may : (x : Instance) (t : Bool) → (elim t as (λ y. Client) [ true ↦ record c { stage = Answering (begun_reply s q c r x) } | false ↦ c ]).front ≡ c.front
    by_may x true = refl
    by_may x false = refl

    by : (o : Option Instance) → (elim o as (λ y. Client) [
      | None ↦ c
      | Some x ↦ elim (may_begin s r x) as (λ z. Client) [ true ↦ record c { stage = Answering (begun_reply s q c r x) } | false ↦ c ]
    ]).front ≡ c.front
    by None = refl
    by (Some x) = by_may x (may_begin s r x)

begun_front : (s : State) (c : Client) → (begun_at_end s c).front ≡ c.front
begun_front s c = by_closing c.is_closing
  where
    by_passing : (q : Parsed) (r : Reply) (t : Bool) → (elim t as (λ y. Client) [ true ↦ begun_passed s q r.decision c | false ↦ begun_instance s q r c ]).front ≡ c.front
    by_passing q r true = passed_front s q r.decision c
    by_passing q r false = read_front s q r c

    by_reply : (q : Parsed) (r : Reply) (t : Bool) → (elim t as (λ y. Client) [ true ↦ c | false ↦ begun_decided s q r c ]).front ≡ c.front
    by_reply q r true = refl
    by_reply q r false = by_passing q r (is_passing r.decision)

    by_stage : (q : Parsed) (stage : Stage) → (elim stage as (λ y. Client) [
      | Undecided ↦ c
      | Waiting ↦ c
      | Passing ↦ begun_passed s q Pass c
      | Answering reply ↦ elim reply.has_begun as (λ z. Client) [ true ↦ c | false ↦ begun_decided s q reply c ]
    ]).front ≡ c.front
    by_stage q Undecided = refl
    by_stage q Waiting = refl
    by_stage q Passing = passed_front s q Pass c
    by_stage q (Answering r) = by_reply q r r.has_begun

    by_front : (front : Front) → (elim front as (λ y. Client) [ NoHeadYet ↦ c | NoFront status ↦ c | IsRequest r ↦ begun_by s r c ]).front ≡ c.front
    by_front NoHeadYet = refl
    by_front (NoFront status) = refl
    by_front (IsRequest q) = by_stage q c.stage

    by_closing : (t : Bool) → (elim t as (λ y. Client) [ true ↦ c | false ↦ elim c.front as (λ z. Client) [ NoHeadYet ↦ c | NoFront status ↦ c | IsRequest r ↦ begun_by s r c ] ]).front ≡ c.front
    by_closing true = refl
    by_closing false = by_front c.front

begun_clients : State → State
begun_clients s = record s { clients = map (begun_at_end s) s.clients }

piped_front : (f : Passed → Passed) (c : Client) → (on_passed f c).front ≡ c.front
piped_front f c = by (passed_of c)
  where
    by : (o : Option Passed) → (elim o as (λ x. Client) [ None ↦ c | Some p ↦ record c { brought = Passes (f p) } ]).front ≡ c.front
    by None = refl
    by (Some p) = refl

said_body_front : (n : ℕ) (q : Reply) (c : Client) → (said_of_body n q c).front ≡ c.front
said_body_front n q c = by (is_passing q.decision)
  where
    by : (t : Bool) → (elim t as (λ x. Client) [
      | true ↦ on_passed (λ p. record p { pipe = without_first n p.pipe }) (record c { stage = Answering q })
      | false ↦ record c { stage = Answering (record q { at = q.at + n }) }
    ]).front ≡ c.front
    by true = piped_front (λ p. record p { pipe = without_first n p.pipe }) (record c { stage = Answering q })
    by false = refl

said_reply_front : (n : ℕ) (r : Reply) (c : Client) → (said_of n r c).front ≡ c.front
said_reply_front n r c = by (nat_le n (length r.head_left))
  where
    by : (t : Bool) → (elim t as (λ x. Client) [
      | true ↦ record c { stage = Answering (record r { head_left = drop n r.head_left }) }
      | false ↦ said_of_body (n - length r.head_left) (record r { head_left = [] }) c
    ]).front ≡ c.front
    by true = refl
    by false = said_body_front (n - length r.head_left) (record r { head_left = [] }) c

pub said_front : (n : ℕ) (c : Client) → (said_by n c).front ≡ c.front
said_front n c = by (is_empty c.interim_left)
  where
    by_reply : (o : Option Reply) → (elim o as (λ y. Client) [ None ↦ c | Some r ↦ said_of n r c ]).front ≡ c.front
    by_reply None = refl
    by_reply (Some r) = said_reply_front n r c

    by : (t : Bool) → (elim t as (λ x. Client) [ false ↦ record c { interim_left = drop n c.interim_left } | true ↦ elim (reply_of c) as (λ y. Client) [ None ↦ c | Some r ↦ said_of n r c ] ]).front ≡ c.front
    by true = by_reply (reply_of c)
    by false = refl

-- ---- where it is not read anew it stays

module _ (Q : Front → Type 0) where
  pub as_before : (d c : Client) → d.front ≡ c.front → Q c.front → Q d.front
  as_before d c front h = subst Q (sym front) h

  pub quiet_fronts : (o s : State) → Quietly o s → AreAll Q o → AreAll Q s
  quiet_fronts o s quiet h = all_are (λ d i. by d (q.clients_from d i))
    where
      q : FactsOf o s
      q = facts_of quiet

      by : (d : Client) → FromClient o.clients d → Q d.front
      by d c = as_before d c.was c.is.front (all_of h c.was c.there)

  pub changed_fronts : (s : State) (p : Client → Bool) (f : Client → Client) → ((c : Client) → Q c.front → Q (f c).front) → AreAll Q s → AreAll Q (record s { clients = change p f s.clients })
  changed_fronts s p f kept h = all_are (λ d i. by d (in_change p f d s.clients i))
    where
      by : (d : Client) → Changed p f s.clients d → Q d.front
      by d (same i isnt) = all_of h d i
      by d (other c i hit eq) = subst (λ (x : Client). Q x.front) (sym eq) (kept c (all_of h c i))

  pub filtered_fronts : (s : State) (p : Client → Bool) → AreAll Q s → AreAll Q (record s { clients = filter p s.clients })
  filtered_fronts s p h = all_are (λ c i. all_of h c (in_filter p c s.clients i).0)

  pub begin_replies_fronts : (s : State) → AreAll Q s → AreAll Q (begin_replies s)
  unfolding begin_replies begun_clients
  begin_replies_fronts s h =
      quiet_fronts (begun_clients s) _ (swept-quiet _ (forsake-quiet (is_outrun s) (begun_clients s) (quiet_same (begun_clients s))))
      (all_are (λ d i. by d (in_map (begun_at_end s) d s.clients i)))
    where
      by : (d : Client) → From (begun_at_end s) s.clients d → Q d.front
      by d r = subst (λ (x : Client). Q x.front) (sym r.is) (as_before (begun_at_end s r.was) r.was (begun_front s r.was) (all_of h r.was r.there))

  refuse_fronts : (c : Client) (status : ℕ) (s : State) → AreAll Q s → AreAll Q (refuse c status s)
  unfolding refuse on_client
  refuse_fronts c status s h =
      quiet_fronts _ _ (swept-quiet _ (leave-quiet (is_of c.number) _ (quiet_same _)))
      (changed_fronts s (is_client c.number) (refused_with status) (λ d fit. as_before (refused_with status d) d refl fit) h)

  ask_for_fronts : (c : Client) (d : Decision) (head : Request) (key : Key) (kind : AskKind) (s : State) → AreAll Q s → AreAll Q (ask_for c d head key kind s)
  unfolding ask_for on_client
  ask_for_fronts c d head key kind s h =
      quiet_fronts _ _ (swept-quiet _ (begin_exchange-quiet (new_exchange s c head key d kind) _ (leave-quiet (is_of c.number) _ (quiet_same _))))
      (changed_fronts s (is_client c.number) (asking_with d) (λ e fit. as_before (asking_with d e) e refl fit) h)

  ask_origin_fronts : (c : Client) (d : Decision) (s : State) → AreAll Q s → AreAll Q (ask_origin c d s)
  unfolding ask_origin ask_as
  ask_origin_fronts c d s h = by_front c.front
    where
      by_kind : (head : Request) (key : Key) (o : Option AskKind) → AreAll Q (elim o as (λ x. State) [ None ↦ s | Some kind ↦ ask_for c d head key kind s ])
      by_kind head key None = h
      by_kind head key (Some kind) = ask_for_fronts c d head key kind s h

      by_key : (r : Parsed) (named : Result Key TargetFault) → AreAll Q (elim named as (λ x. State) [ Ok key ↦ ask_as c d r.head key s | Err fault ↦ s ])
      by_key r (Ok key) = by_kind r.head key (kind_of r.head (row_for s r.head (text_of key)) d)
      by_key r (Err fault) = h

      by_front : (front : Front) → AreAll Q (elim front as (λ x. State) [
        | NoHeadYet ↦ s
        | NoFront status ↦ s
        | IsRequest r ↦ elim r.key as (λ y. State) [ Ok key ↦ ask_as c d r.head key s | Err fault ↦ s ]
      ])
      by_front NoHeadYet = h
      by_front (NoFront status) = h
      by_front (IsRequest r) = by_key r r.key

  relay_fronts : (c : Client) (s : State) → AreAll Q s → AreAll Q (relay c s)
  unfolding relay on_client
  relay_fronts c s h =
      quiet_fronts _ _ (swept-quiet _ (quiet_same _))
      (changed_fronts s (is_client c.number) (answering_with (reply_by Relay None)) (λ e fit. as_before (answering_with (reply_by Relay None) e) e refl fit) h)

  follow_fronts : (c : Client) (d : Decision) (s : State) → AreAll Q s → AreAll Q (follow c d s)
  unfolding follow follow_row follow_with on_client
  follow_fronts c d s h = by_key (key_in c.front)
    where
      at : (o : Option Instance) → AreAll Q (elim o as (λ y. State) [ None ↦ s | Some x ↦ follow_with c (reply_by d (Some x.id)) x s ])
      at None = h
      at (Some x) =
          quiet_fronts _ _ (swept-quiet _ (leave-quiet _ _ (quiet_same _)))
          (changed_fronts s (is_client c.number) (answering_with (reply_by d (Some x.id))) (λ e fit. as_before (answering_with (reply_by d (Some x.id)) e) e refl fit) h)

      by_key : (o : Option Key) → AreAll Q (elim o as (λ x. State) [ None ↦ s | Some key ↦ follow_row c d (text_of key) s ])
      by_key None = h
      by_key (Some key) = at (row s (text_of key))

  pub decided_fronts : (c : Client) (d : Decision) (s : State) → AreAll Q s → AreAll Q (decided c d s)
  unfolding decided decided_by
  decided_fronts c d s h = by d
    where
      t : State
      t = enter_row c d s

      ht : AreAll Q t
      ht = quiet_fronts s t (enter_row-quiet c d s (quiet_same s)) h

      by : (e : Decision) → AreAll Q (decided_by c e t)
      by (Refuse status) = refuse_fronts c status t ht
      by Pass = ask_origin_fronts c Pass t ht
      by Fetch = ask_origin_fronts c Fetch t ht
      by Validate = ask_origin_fronts c Validate t ht
      by Relay = relay_fronts c t ht
      by (Hit from to) = follow_fronts c (Hit from to) t ht
      by (Part from to) = follow_fronts c (Part from to) t ht
      by Head = follow_fronts c Head t ht
      by NotModified = follow_fronts c NotModified t ht
      by Unsatisfiable = follow_fronts c Unsatisfiable t ht

-- ---- and where it is, if that is so of each that is read

module _ (Q : Front → Type 0) (new : (bytes : Bytes) → Q (front_of bytes)) where
  pub heard_fronts : (bytes : Bytes) (c : Client) → Q c.front → Q (heard_by bytes c).front
  heard_fronts bytes c h = by c.front refl
    where
      more : Client
      more = record c { heard = c.heard ++ what_counts c.front (drop c.skip bytes); skip = c.skip - length bytes }

      by : (front : Front) → c.front ≡ front → Q (elim front as (λ x. Client) [ NoHeadYet ↦ fronted more | NoFront status ↦ more | IsRequest r ↦ more ]).front
      by NoHeadYet is = new more.heard
      by (NoFront status) is = h
      by (IsRequest r) is = h

  -- ---- replies are over

  end_reply_fronts : (c : Client) (s : State) → AreAll Q s → AreAll Q (end_reply c s)
  unfolding end_reply on_client
  end_reply_fronts c s h = by c.closes
    where
      by : (closes : Bool) → AreAll Q (elim closes as (λ x. State) [
        | true ↦ close_client c.number false s
        | false ↦ swept (forsake (is_of c.number) (on_client c.number next_request s))
      ])
      by true = quiet_fronts Q s _ (close_client-quiet c.number false s (quiet_same s)) h
      by false =
          quiet_fronts Q (on_client c.number next_request s) _ (swept-quiet _ (forsake-quiet (is_of c.number) (on_client c.number next_request s) (quiet_same (on_client c.number next_request s))))
          (changed_fronts Q s (is_client c.number) next_request (λ d fit. new (drop d.body_left d.heard)) h)

  end_said_fronts : (c : Client) (s : State) → AreAll Q s → AreAll Q (end_said c s)
  unfolding end_said
  end_said_fronts c s h = by (is_said c && not c.is_closing)
    where
      by : (t : Bool) → AreAll Q (elim t as (λ x. State) [ true ↦ end_reply c s | false ↦ s ])
      by true = end_reply_fronts c s h
      by false = h

  each_client_fronts : (f : Client → State → State) → ((c : Client) (s : State) → AreAll Q s → AreAll Q (f c s)) → (ns : List ℕ) (s : State) → AreAll Q s → AreAll Q (each_client f ns s)
  unfolding each_client
  each_client_fronts f each [] s h = h
  each_client_fronts f each (n ∷ ns) s h = each_client_fronts f each ns _ (by (client s n))
    where
      by : (o : Option Client) → AreAll Q (elim o as (λ x. State) [ None ↦ s | Some c ↦ f c s ])
      by None = h
      by (Some c) = each c s h

  pub end_replies_fronts : (s : State) → AreAll Q s → AreAll Q (end_replies s)
  unfolding end_replies
  end_replies_fronts s h = each_client_fronts close_finished (λ c t ht. quiet_fronts Q t _ (close_finished-quiet c t (quiet_same t)) ht) _ _ (each_client_fronts end_said end_said_fronts _ s h)
