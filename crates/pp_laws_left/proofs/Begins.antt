-- Replies that begin, are said and are over, and requests that are heard, leave it so.
use Rattle.std.proofs.Common.{◌≡◌, refl, ℕ, ◌+◌, ◌-◌, ◌≤◌, nat_le, nat_lt, Bool, true, false, ◌==◌, ◌&&◌, not, List, [], ◌∷◌, ◌++◌, drop, length, map, is_some, Option, Some, None, sym, subst, ap, ◌∙◌, length-append, zero-le, arith}
use Rattle.std.proofs.lemmas.Bool.Decides.{nat_tests}
use Rattle.std.proofs.lemmas.List.{length-take}
use Rattle.pp_pass.specs.Pipe.{without_first}
use Rattle.pp_reply.specs.Keeping.{is_end_known}
use Rattle.pp_text.specs.Bytes.{is_empty}
use Rattle.pp_world.specs.declared.note.Decision.{Decision}
use Rattle.pp_world.specs.declared.note.Decision.TheVariants.{Pass}
use Rattle.pp_law.specs.Closing.{close_client, forsake, is_of}
use Rattle.pp_law.specs.Connections.{client, each_client, is_client, on_client}
use Rattle.pp_law.specs.Hearing.{fronted, heard_by, what_counts}
use Rattle.pp_law.specs.Lists.{Bytes}
use Rattle.pp_law.specs.Offers.{body_part, offer, passed_part, piece, run_at}
use Rattle.pp_law.specs.Replies.{begin_replies, begun_at_end, begun_by, begun_decided, begun_instance, begun_passed, begun_reply, close_finished, end_replies, end_reply, end_said, is_outrun, is_said, kept_source, may_begin, next_request, passed_reply, said_by, said_of, said_of_body}
use Rattle.pp_law.specs.Requests.{Front, Parsed, NoHeadYet, NoHead as NoFront, IsRequest, keeps_open, parsed_in}
use Rattle.pp_law.specs.Stages.{is_passing, on_passed, passed_of, reply_of}
use Rattle.pp_law.specs.State.{State, Client, Instance, Passed, Passes, Reply, Stage, Undecided, Waiting, Passing, Answering}
use Rattle.pp_law.specs.Table.{Next, next_from, next_in, next_of, source_of, swept}
use Rattle.pp_laws_replies.proofs.Quiet.{quiet_same}
use Rattle.pp_laws_replies.proofs.QuietAsks.{close_client-quiet, forsake-quiet}
use Rattle.pp_laws_replies.proofs.QuietRows.{swept-quiet}
use Rattle.pp_laws_replies.proofs.QuietTurns.{close_finished-quiet}
use Rattle.pp_laws_left.proofs.Fine.{AllFine, Fine, GoesOn, Places, answers, begun, changed_fine, has_begun, mapped_fine, quiet_fine, same_fine, undecided}

-- ---- it begins

-- of no bytes
pub empty : (r : Reply) → r.at ≡ 0 → r.to ≡ 0 → GoesOn r
empty r at to = record {
  even = λ is. at ∙ sym to;
  within = subst (λ n. n ≤ r.to) (sym at) zero-le;
  sourced = λ lt. let both : false ≡ true = ap (λ n. nat_lt n 0) (sym at) ∙ ap (λ n. nat_lt r.at n) (sym to) ∙ lt in absurd (cc both);
}

passed_fine : (s : State) (q : Parsed) (d : Decision) (c : Client) → Fine c → Fine (begun_passed s q d c)
passed_fine s q d c h = by (passed_of c)
  where
    by : (o : Option Passed) → Fine (elim o as (λ x. Client) [
      | None ↦ c
      | Some p ↦ record c { stage = Answering (passed_reply s q p d); closes = not (keeps_open q && is_end_known p.rule q.head.minor) }
    ])
    by None = h
    by (Some p) = answers _ (passed_reply s q p d) refl (empty (passed_reply s q p d) refl refl) (λ none. refl)

kept_has : (r : Reply) → nat_lt r.at r.to ≡ true → is_some r.source ≡ true → is_some (kept_source r) ≡ true
kept_has r lt has = by (r.at == r.to) refl
  where
    off : (a b : ℕ) → nat_lt a b ≡ true → (a == b) ≡ true → ⊥
    off a b less same = grind (arith, nat_tests)

    by : (t : Bool) → (r.at == r.to) ≡ t → is_some (elim t as (λ x. Option ℕ) [ true ↦ None | false ↦ r.source ]) ≡ true
    by true same = absurd (off r.at r.to lt same)
    by false isnt = has

read_fine : (s : State) (q : Parsed) (r : Reply) (c : Client) → c.stage ≡ Answering r → Fine c → Fine (begun_instance s q r c)
read_fine s q r c at h = by (source_of s r)
  where
    by_may : (x : Instance) (t : Bool) → Fine (elim t as (λ y. Client) [ true ↦ record c { stage = Answering (begun_reply s q c r x) } | false ↦ c ])
    by_may x true = answers _ (begun_reply s q c r x) refl (record { even = (h.reply r at).even; within = (h.reply r at).within; sourced = λ lt. kept_has r lt ((h.reply r at).sourced lt) }) (λ none. refl)
    by_may x false = h

    by : (o : Option Instance) → Fine (elim o as (λ y. Client) [
      | None ↦ c
      | Some x ↦ elim (may_begin s r x) as (λ z. Client) [ true ↦ record c { stage = Answering (begun_reply s q c r x) } | false ↦ c ]
    ])
    by None = h
    by (Some x) = by_may x (may_begin s r x)

pub begun_fine : (s : State) (c : Client) → Fine c → Fine (begun_at_end s c)
begun_fine s c h = by_closing c.is_closing
  where
    by_passing : (q : Parsed) (r : Reply) (t : Bool) → c.stage ≡ Answering r → Fine (elim t as (λ y. Client) [ true ↦ begun_passed s q r.decision c | false ↦ begun_instance s q r c ])
    by_passing q r true at = passed_fine s q r.decision c h
    by_passing q r false at = read_fine s q r c at h

    by_reply : (q : Parsed) (r : Reply) (t : Bool) → c.stage ≡ Answering r → Fine (elim t as (λ y. Client) [ true ↦ c | false ↦ begun_decided s q r c ])
    by_reply q r true at = h
    by_reply q r false at = by_passing q r (is_passing r.decision) at

    by_stage : (q : Parsed) (stage : Stage) → c.stage ≡ stage → Fine (elim stage as (λ y. Client) [
      | Undecided ↦ c
      | Waiting ↦ c
      | Passing ↦ begun_passed s q Pass c
      | Answering reply ↦ elim reply.has_begun as (λ z. Client) [ true ↦ c | false ↦ begun_decided s q reply c ]
    ])
    by_stage q Undecided at = h
    by_stage q Waiting at = h
    by_stage q Passing at = passed_fine s q Pass c h
    by_stage q (Answering r) at = by_reply q r r.has_begun at

    by_front : (front : Front) → Fine (elim front as (λ y. Client) [ NoHeadYet ↦ c | NoFront status ↦ c | IsRequest r ↦ begun_by s r c ])
    by_front NoHeadYet = h
    by_front (NoFront status) = h
    by_front (IsRequest q) = by_stage q c.stage refl

    by_closing : (t : Bool) → Fine (elim t as (λ y. Client) [ true ↦ c | false ↦ elim c.front as (λ z. Client) [ NoHeadYet ↦ c | NoFront status ↦ c | IsRequest r ↦ begun_by s r c ] ])
    by_closing true = h
    by_closing false = by_front c.front

-- ---- it is said

-- no more bytes are offered than are left of it
abbrev pub IsOffered : ℕ → Client → Type 0
IsOffered n c = is_empty c.interim_left ≡ true → (r : Reply) → c.stage ≡ Answering r → is_passing r.decision ≡ false → n - length r.head_left ≤ r.to - r.at

pub offered_within : (s : State) (c : Client) (n : ℕ) → n ≤ length (offer s c) → IsOffered n c
offered_within s c n le none r at off = by r.has_begun (subst (λ (xs : Bytes). n ≤ length xs) (whole ∙ of_reply) le)
  where
    whole : offer s c ≡ (elim (reply_of c) as (λ y. Bytes) [ None ↦ [] | Some q ↦ elim q.has_begun as (λ z. Bytes) [ false ↦ [] | true ↦ q.head_left ++ body_part s c q ] ])
    whole = ap (λ (t : Bool). elim t as (λ x. Bytes) [ false ↦ c.interim_left | true ↦ elim (reply_of c) as (λ y. Bytes) [ None ↦ [] | Some q ↦ elim q.has_begun as (λ z. Bytes) [ false ↦ [] | true ↦ q.head_left ++ body_part s c q ] ] ]) none

    of_reply : (elim (reply_of c) as (λ y. Bytes) [ None ↦ [] | Some q ↦ elim q.has_begun as (λ z. Bytes) [ false ↦ [] | true ↦ q.head_left ++ body_part s c q ] ]) ≡ (elim r.has_begun as (λ z. Bytes) [ false ↦ [] | true ↦ r.head_left ++ body_part s c r ])
    of_reply =
        ap (λ (stage : Stage). elim (elim stage as (λ x. Option Reply) [ Undecided ↦ None | Waiting ↦ None | Passing ↦ None | Answering q ↦ Some q ]) as (λ y. Bytes) [ None ↦ [] | Some q ↦ elim q.has_begun as (λ z. Bytes) [ false ↦ [] | true ↦ q.head_left ++ body_part s c q ] ]) at

    of_next : (o : Option Instance) → length (elim (elim o as (λ x. Option Next) [ None ↦ None | Some x ↦ next_from x r ]) as (λ y. Bytes) [ None ↦ [] | Some m ↦ piece s m ]) ≤ r.to - r.at
    of_next None = zero-le
    of_next (Some x) = by_order (nat_lt r.at r.to)
      where
        by_order : (t : Bool) → length (elim (elim t as (λ y. Option Next) [ true ↦ Some (record { source = x; at = r.at; to = r.to }) | false ↦ None ]) as (λ z. Bytes) [ None ↦ [] | Some m ↦ piece s m ]) ≤ r.to - r.at
        by_order true = let e = length-take (r.to - r.at) (run_at 16 x.id r.at s.chunks) in omega (arith, length-take (r.to - r.at) (run_at 16 x.id r.at s.chunks))
        by_order false = zero-le

    of_stage : length (elim (elim (reply_of c) as (λ x. Option Next) [ None ↦ None | Some q ↦ next_in s q ]) as (λ y. Bytes) [ None ↦ [] | Some m ↦ piece s m ]) ≤ r.to - r.at
    of_stage = subst (λ (stage : Stage). length (elim (elim (elim stage as (λ z. Option Reply) [ Undecided ↦ None | Waiting ↦ None | Passing ↦ None | Answering q ↦ Some q ]) as (λ x. Option Next) [ None ↦ None | Some q ↦ next_in s q ]) as (λ y. Bytes) [ None ↦ [] | Some m ↦ piece s m ]) ≤ r.to - r.at) (sym at) (of_next (source_of s r))

    of_closing : (t : Bool) → length (elim (elim t as (λ x. Option Next) [ true ↦ None | false ↦ elim (reply_of c) as (λ z. Option Next) [ None ↦ None | Some q ↦ next_in s q ] ]) as (λ y. Bytes) [ None ↦ [] | Some m ↦ piece s m ]) ≤ r.to - r.at
    of_closing true = zero-le
    of_closing false = of_stage

    of_body : length (body_part s c r) ≤ r.to - r.at
    of_body = subst (λ (t : Bool). length (elim t as (λ x. Bytes) [ true ↦ passed_part c | false ↦ elim (next_of s c) as (λ y. Bytes) [ None ↦ [] | Some m ↦ piece s m ] ]) ≤ r.to - r.at) (sym off) (of_closing c.is_closing)

    by : (t : Bool) → n ≤ length (elim t as (λ z. Bytes) [ false ↦ [] | true ↦ r.head_left ++ body_part s c r ]) → n - length r.head_left ≤ r.to - r.at
    by true more = let has : length (body_part s c r) ≤ r.to - r.at = of_body in omega (arith, length-append r.head_left (body_part s c r))
    by false more = let zero : n ≤ 0 = more in omega arith

begun_on : (r : Reply) (d c : Client) (q : Reply) → c.stage ≡ Answering r → d.stage ≡ Answering q → q.has_begun ≡ r.has_begun → d.front ≡ c.front → GoesOn q → Fine c → Fine d
begun_on r d c q at now same front goes h = answers d q now goes (λ none. same ∙ by (h.place (ap parsed_in (sym front) ∙ none)))
  where
    by : Places c.stage → r.has_begun ≡ true
    by (undecided is) = let both : false ≡ true = ap (λ (x : Stage). elim x as (λ y. Bool) [ Undecided ↦ true | Waiting ↦ false | Passing ↦ false | Answering p ↦ false ]) (sym at) ∙ is in absurd (cc both)
    by (begun is) = ap has_begun (sym at) ∙ is

piped_fine : (f : Passed → Passed) (c : Client) → Fine c → Fine (on_passed f c)
piped_fine f c h = by (passed_of c)
  where
    by : (o : Option Passed) → Fine (elim o as (λ x. Client) [ None ↦ c | Some p ↦ record c { brought = Passes (f p) } ])
    by None = h
    by (Some p) = same_fine _ c (λ q is. is) refl h

said_body_fine : (n : ℕ) (q r : Reply) (c : Client) → c.stage ≡ Answering r → q.has_begun ≡ r.has_begun → q.decision ≡ r.decision → q.source ≡ r.source → q.at ≡ r.at → q.to ≡ r.to → (is_passing r.decision ≡ false → n ≤ r.to - r.at) → Fine c → Fine (said_of_body n q c)
said_body_fine n q r c stage same decision source at to le h = by (is_passing q.decision) refl
  where
    goes : GoesOn r
    goes = h.reply r stage

    further : (a b m : ℕ) → m ≤ b - a → a ≤ b → a + m ≤ b
    further a b m less order = omega arith

    earlier : (a b m : ℕ) → nat_lt (a + m) b ≡ true → nat_lt a b ≡ true
    earlier a b m less = grind (arith, nat_tests)

    whole : GoesOn q
    whole = record {
      even = λ is. at ∙ goes.even (ap is_passing (sym decision) ∙ is) ∙ sym to;
      within = subst (λ m. m ≤ q.to) (sym at) (subst (λ m. r.at ≤ m) (sym to) goes.within);
      sourced = λ lt. ap (λ (o : Option ℕ). is_some o) source ∙ goes.sourced (ap (λ m. nat_lt m r.to) (sym at) ∙ ap (λ m. nat_lt q.at m) (sym to) ∙ lt);
    }

    by : (t : Bool) → is_passing q.decision ≡ t → Fine (elim t as (λ x. Client) [
      | true ↦ on_passed (λ p. record p { pipe = without_first n p.pipe }) (record c { stage = Answering q })
      | false ↦ record c { stage = Answering (record q { at = q.at + n }) }
    ])
    by true is = piped_fine (λ p. record p { pipe = without_first n p.pipe }) (record c { stage = Answering q }) (begun_on r (record c { stage = Answering q }) c q stage refl same refl whole h)
    by false isnt = begun_on r _ c (record q { at = q.at + n }) stage refl same refl (record {
      even = λ is. let both : false ≡ true = sym isnt ∙ is in absurd (cc both);
      within = subst (λ m. m + n ≤ q.to) (sym at) (subst (λ m. r.at + n ≤ m) (sym to) (further r.at r.to n (le (ap is_passing (sym decision) ∙ isnt)) goes.within));
      sourced = λ lt. whole.sourced (earlier q.at q.to n lt);
    }) h

said_reply_fine : (n : ℕ) (r : Reply) (c : Client) → c.stage ≡ Answering r → (is_passing r.decision ≡ false → n - length r.head_left ≤ r.to - r.at) → Fine c → Fine (said_of n r c)
said_reply_fine n r c at le h = by (nat_le n (length r.head_left))
  where
    by : (t : Bool) → Fine (elim t as (λ x. Client) [
      | true ↦ record c { stage = Answering (record r { head_left = drop n r.head_left }) }
      | false ↦ said_of_body (n - length r.head_left) (record r { head_left = [] }) c
    ])
    by true = begun_on r _ c (record r { head_left = drop n r.head_left }) at refl refl refl (record { even = (h.reply r at).even; within = (h.reply r at).within; sourced = (h.reply r at).sourced }) h
    by false = said_body_fine (n - length r.head_left) (record r { head_left = [] }) r c at refl refl refl refl refl le h

pub said_fine : (n : ℕ) (c : Client) → IsOffered n c → Fine c → Fine (said_by n c)
said_fine n c offered h = by (is_empty c.interim_left) refl
  where
    by_reply : (stage : Stage) → is_empty c.interim_left ≡ true → c.stage ≡ stage
        → Fine (elim (elim stage as (λ x. Option Reply) [ Undecided ↦ None | Waiting ↦ None | Passing ↦ None | Answering r ↦ Some r ]) as (λ y. Client) [ None ↦ c | Some r ↦ said_of n r c ])
    by_reply Undecided none at = h
    by_reply Waiting none at = h
    by_reply Passing none at = h
    by_reply (Answering r) none at = said_reply_fine n r c at (offered none r at) h

    by : (t : Bool) → is_empty c.interim_left ≡ t
        → Fine (elim t as (λ x. Client) [ false ↦ record c { interim_left = drop n c.interim_left } | true ↦ elim (reply_of c) as (λ y. Client) [ None ↦ c | Some r ↦ said_of n r c ] ])
    by true none = by_reply c.stage none refl
    by false some = same_fine _ c (λ q is. is) refl h

-- ---- a request is heard, or is next

pub heard_stage : (c : Client) (front : Front) → (elim front as (λ x. Client) [ NoHeadYet ↦ fronted c | NoFront status ↦ c | IsRequest r ↦ c ]).stage ≡ c.stage
heard_stage c NoHeadYet = refl
heard_stage c (NoFront status) = refl
heard_stage c (IsRequest r) = refl

heard_front : (c : Client) (front : Front) (q : Parsed) → front ≡ IsRequest q → (elim front as (λ x. Client) [ NoHeadYet ↦ fronted c | NoFront status ↦ c | IsRequest r ↦ c ]).front ≡ c.front
heard_front c NoHeadYet q is = absurd (cc is)
heard_front c (NoFront status) q is = absurd (cc is)
heard_front c (IsRequest r) q is = refl

pub heard_fine : (bytes : Bytes) (c : Client) → Fine c → Fine (heard_by bytes c)
heard_fine bytes c h = same_fine (heard_by bytes c) c (λ q is. heard_front more c.front q is ∙ is) (heard_stage more c.front) h
  where
    more : Client
    more = record c { heard = c.heard ++ what_counts c.front (drop c.skip bytes); skip = c.skip - length bytes }

pub none_yet : (c : Client) → c.stage ≡ Undecided → Fine c
none_yet c at = record {
  reply = λ r is. let both : Undecided ≡ Answering r = sym at ∙ is in absurd (cc both);
  place = λ none. undecided (ap (λ (x : Stage). elim x as (λ y. Bool) [ Undecided ↦ true | Waiting ↦ false | Passing ↦ false | Answering p ↦ false ]) at);
}

-- ---- replies begin at the end of a turn

begun_clients : State → State
begun_clients s = record s { clients = map (begun_at_end s) s.clients }

pub begin_replies_fine : (s : State) → AllFine s → AllFine (begin_replies s)
unfolding begin_replies begun_clients
begin_replies_fine s h =
    quiet_fine (begun_clients s) _ (swept-quiet _ (forsake-quiet (is_outrun s) (begun_clients s) (quiet_same (begun_clients s))))
    (mapped_fine s (begun_at_end s) (λ c i fit. begun_fine s c fit) h)

-- ---- and are over

end_reply_fine : (c : Client) (s : State) → AllFine s → AllFine (end_reply c s)
unfolding end_reply on_client
end_reply_fine c s h = by c.closes
  where
    by : (closes : Bool) → AllFine (elim closes as (λ x. State) [
      | true ↦ close_client c.number false s
      | false ↦ swept (forsake (is_of c.number) (on_client c.number next_request s))
    ])
    by true = quiet_fine s _ (close_client-quiet c.number false s (quiet_same s)) h
    by false =
        quiet_fine (on_client c.number next_request s) _ (swept-quiet _ (forsake-quiet (is_of c.number) (on_client c.number next_request s) (quiet_same (on_client c.number next_request s))))
        (changed_fine s (is_client c.number) next_request (λ d i hit fit. none_yet (next_request d) refl) h)

end_said_fine : (c : Client) (s : State) → AllFine s → AllFine (end_said c s)
unfolding end_said
end_said_fine c s h = by (is_said c && not c.is_closing)
  where
    by : (t : Bool) → AllFine (elim t as (λ x. State) [ true ↦ end_reply c s | false ↦ s ])
    by true = end_reply_fine c s h
    by false = h

each_client_fine : (f : Client → State → State) → ((c : Client) (s : State) → AllFine s → AllFine (f c s)) → (ns : List ℕ) (s : State) → AllFine s → AllFine (each_client f ns s)
unfolding each_client
each_client_fine f each [] s h = h
each_client_fine f each (n ∷ ns) s h = each_client_fine f each ns _ (by (client s n))
  where
    by : (o : Option Client) → AllFine (elim o as (λ x. State) [ None ↦ s | Some c ↦ f c s ])
    by None = h
    by (Some c) = each c s h

pub end_replies_fine : (s : State) → AllFine s → AllFine (end_replies s)
unfolding end_replies
end_replies_fine s h = each_client_fine close_finished (λ c t ht. quiet_fine t _ (close_finished-quiet c t (quiet_same t)) ht) _ _ (each_client_fine end_said end_said_fine _ s h)
