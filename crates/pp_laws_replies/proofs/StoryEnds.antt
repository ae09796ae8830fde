-- A reply that was said whole is over, and the next request stands.
use Rattle.std.proofs.Common.{◌≡◌, refl, ℕ, ◌≤◌, suc, ◌+◌, ◌-◌, Bool, true, false, not, ◌==◌, ◌&&◌, List, [], ◌∷◌, ◌++◌, length, Option, Some, None, Result, Ok, Err, is_ok, inl, inr, sym, subst, ap, ◌∙◌, append_assoc, append-nil, length-append, arith}
use Rattle.std.specs.List.{concat}
use Rattle.pp_framing.specs.declared.body.BodyRule.{BodyRule}
use Rattle.pp_framing.specs.declared.framing.FramingFault.{FramingFault}
use Rattle.pp_reply.specs.Keeping.{is_end_known, is_kept_open}
use Rattle.pp_reply.specs.Texts.{is_last}
use Rattle.pp_text.specs.Bytes.{is_empty}
use Rattle.pp_law.specs.Closing.{is_of, forsake, close_client}
use Rattle.pp_law.specs.Connections.{client, is_client, each_client, on_client}
use Rattle.pp_law.specs.Lists.{Bytes, is_some_with}
use Rattle.pp_law.specs.Replies.{has_no_more, is_said, next_request, end_reply, end_said, close_finished, end_replies}
use Rattle.pp_law.specs.Requests.{Front, Parsed, NoHeadYet, NoHead as NoFront, IsRequest, has_request, keeps_open, keeps_after}
use Rattle.pp_law.specs.Stages.{reply_of}
use Rattle.pp_law.specs.State.{State, Client, Stage, Undecided, Waiting, Passing, Answering, Reply, Instance}
use Rattle.pp_law.specs.Table.{swept}
use Rattle.pp_world.specs.declared.note.Decision.{Decision}
use Rattle.pp_laws.specs.Runs.{IsIn}
use Rattle.pp_laws.proofs.Callers.{next_request-same}
use Rattle.pp_laws.proofs.Lists.{in_find, one_of}
use Rattle.pp_laws.proofs.Sound.{client_number}
use Rattle.pp_laws.proofs.Tests.{first_holds, same_number, second_holds}
use Rattle.pp_laws_replies.specs.Replies.{IsReply, is_page, is_kept, is_passed, IsWholeReply, AreRepliesFrom}
use Rattle.pp_laws_replies.proofs.HeardPlaces.{ends_nowhere, place_next}
use Rattle.pp_laws_replies.proofs.Quiet.{quiet_same}
use Rattle.pp_laws_replies.proofs.QuietAsks.{close_client-quiet, forsake-quiet}
use Rattle.pp_laws_replies.proofs.QuietRows.{swept-quiet}
use Rattle.pp_laws_replies.proofs.QuietTurns.{close_finished-quiet}
use Rattle.pp_laws_replies.proofs.Stories.{Told, Begun, a_page, a_kept, a_passed, kept_head, Now, undecided, waiting, chosen, begun, Story, Orderly, changed_orderly, order_of, quiet_orderly}

-- ---- what is said whole

pub record SaidWhole (c : Client) : Type 0 where
  pub reply : Reply
  pub stage : c.stage ≡ Answering reply
  pub begun : reply.has_begun ≡ true
  pub interim : c.interim_left ≡ []
  pub head : reply.head_left ≡ []
  pub all : reply.at ≡ reply.to

nothing : (bytes : Bytes) → is_empty bytes ≡ true → bytes ≡ []
nothing [] is = refl
nothing (b ∷ bytes) is = absurd (cc is)

said_reply : (c : Client) (stage : Stage) → c.stage ≡ stage → is_empty c.interim_left ≡ true
    → is_some_with (λ r. r.has_begun && is_empty r.head_left && has_no_more c r) (elim stage as (λ x. Option Reply) [ Undecided ↦ None | Waiting ↦ None | Passing ↦ None | Answering r ↦ Some r ]) ≡ true → SaidWhole c
said_reply c Undecided stage none is = absurd (cc is)
said_reply c Waiting stage none is = absurd (cc is)
said_reply c Passing stage none is = absurd (cc is)
said_reply c (Answering r) stage none is =
    let h = three r.has_begun (is_empty r.head_left) (has_no_more c r) is in
    record { reply = r; stage = stage; begun = h.0; interim = nothing c.interim_left none; head = nothing r.head_left h.1; all = same_number r.at r.to (first_holds (r.at == r.to) _ h.2) }
  where
    three : (a b d : Bool) → (a && b && d) ≡ true → (a ≡ true) × (b ≡ true) × (d ≡ true)
    three true true true has = (refl, refl, refl)
    three true true false has = absurd (cc has)
    three true false d has = absurd (cc has)
    three false b d has = absurd (cc has)

said_whole : (c : Client) → is_said c ≡ true → SaidWhole c
said_whole c is = said_reply c c.stage refl (first_holds (is_empty c.interim_left) _ is) (second_holds (is_empty c.interim_left) (is_some_with (λ r. r.has_begun && is_empty r.head_left && has_no_more c r) (reply_of c)) is)

all_said : (a at to m : ℕ) → at ≡ to → a + (to - at) ≡ m → (a ≤ m) × (a ≡ m)
all_said a at to m all is = (omega arith, omega arith)

whole_of : {instances : List Instance} {next_instance : ℕ} (f : Front) (closes : Bool) (r : Reply) (head body : Bytes) → r.at ≡ r.to → Begun instances next_instance f closes r head body → IsReply f r.decision true closes head body
whole_of f closes r head body all (a_page status is_decided to is none end) = is_page status is_decided is none end
whole_of f closes r head body all (a_kept q front by k given end) = is_kept q front by (kept_head k) (all_said (length body) r.at r.to _ all k.still_to_say).0 (λ whole. (all_said (length body) r.at r.to _ all k.still_to_say).1) end
whole_of f closes r head body all (a_passed q front is_on head_is end) = is_passed q front is_on head_is end

whole_reply : (instances : List Instance) (next_instance : ℕ) (decided : Option Decision) (c : Client) (last : Bytes) → c.closes ≡ false → SaidWhole c → Now instances next_instance decided c last → IsWholeReply c.front decided last
whole_reply instances next_instance decided c last goes_on w (undecided stage none is) = let both : Undecided ≡ Answering w.reply = sym stage ∙ w.stage in absurd (cc both)
whole_reply instances next_instance decided c last goes_on w (waiting (inl stage) has is) = let both : Waiting ≡ Answering w.reply = sym stage ∙ w.stage in absurd (cc both)
whole_reply instances next_instance decided c last goes_on w (waiting (inr stage) has is) = let both : Passing ≡ Answering w.reply = sym stage.0 ∙ w.stage in absurd (cc both)
whole_reply instances next_instance decided c last goes_on w (chosen r stage isnt_on taken has is what) =
    let both : Answering r ≡ Answering w.reply = sym stage ∙ w.stage in
    let eq : r ≡ w.reply = cc in
    let off : false ≡ true = sym isnt_on ∙ ap (λ (x : Reply). x.has_begun) eq ∙ w.begun in absurd (cc off)
whole_reply instances next_instance decided c last goes_on w (begun r stage is_on taken has head body is rest what) =
    let both : Answering r ≡ Answering w.reply = sym stage ∙ w.stage in
    let eq : r ≡ w.reply = cc in
    record {
      decision = r.decision;
      by = taken;
      head = head;
      body = body;
      spelled = sym (append-nil last) ∙ sym (append-nil (last ++ [])) ∙ ap (λ l. (last ++ l) ++ []) (sym w.interim) ∙ ap (λ l. (last ++ c.interim_left) ++ l) (sym w.head ∙ ap (λ (x : Reply). x.head_left) (sym eq)) ∙ is;
      is = subst (λ t. IsReply c.front r.decision true t head body) goes_on (whole_of c.front c.closes r head body (ap (λ (x : Reply). x.at) eq ∙ w.all ∙ ap (λ (x : Reply). x.to) (sym eq)) what);
    }

has_one : (instances : List Instance) (next_instance : ℕ) (decided : Option Decision) (c : Client) (last : Bytes) → SaidWhole c → Now instances next_instance decided c last → has_request c.front ≡ true
has_one instances next_instance decided c last w (undecided stage none is) = let both : Undecided ≡ Answering w.reply = sym stage ∙ w.stage in absurd (cc both)
has_one instances next_instance decided c last w (waiting stage has is) = has
has_one instances next_instance decided c last w (chosen r stage isnt_on taken has is what) = has
has_one instances next_instance decided c last w (begun r stage is_on taken has head body is rest what) = has

-- ---- a reply that does not close is to a request whose end is known

open_end : (r : Parsed) → keeps_open r ≡ true → ends_nowhere (IsRequest r) ≡ false
open_end r is = by r.rule (second_holds (is_kept_open r.head.minor r.head.fields) (is_ok r.rule) is)
  where
    by : (rule : Result BodyRule FramingFault) → is_ok rule ≡ true → (elim rule as (λ x. Bool) [ Ok one ↦ false | Err fault ↦ true ]) ≡ false
    by (Ok one) ok = refl
    by (Err fault) ok = absurd (cc ok)

is_open : (b : Bool) → false ≡ not b → b ≡ true
is_open true is = refl
is_open false is = absurd (cc is)

page_end : (f : Front) (status : ℕ) → keeps_after status f ≡ true → ends_nowhere f ≡ false
page_end NoHeadYet status is = refl
page_end (NoFront other) status is = refl
page_end (IsRequest r) status is = open_end r (first_holds (keeps_open r) (not (is_last status)) is)

end_known : (f : Front) (d : Decision) (head body : Bytes) → IsReply f d true false head body → ends_nowhere f ≡ false
end_known f d head body (is_page status is_decided is none end) = page_end f status (is_open (keeps_after status f) end)
end_known f d head body (is_kept r front by k short long end) = ap ends_nowhere front ∙ open_end r (is_open (keeps_open r) end)
end_known f d head body (is_passed r front is_on p end) = ap ends_nowhere front ∙ open_end r (first_holds (keeps_open r) (is_end_known p.rule r.head.minor) (is_open (keeps_open r && is_end_known p.rule r.head.minor) end))

-- ---- one more reply

pub one_more : (decided : ℕ → Option Decision) (i : ℕ) (fs : List Front) (texts : List Bytes) (f : Front) (text : Bytes) → AreRepliesFrom decided i fs texts → IsWholeReply f (decided (i + length fs)) text
    → AreRepliesFrom decided i (fs ++ f ∷ []) (texts ++ text ∷ [])
one_more decided i [] [] f text each is = (subst (λ j. IsWholeReply f (decided j) text) (omega arith) is, tt)
one_more decided i [] (t ∷ texts) f text each is = absurd each
one_more decided i (g ∷ fs) [] f text each is = absurd each
one_more decided i (g ∷ fs) (t ∷ texts) f text each is = (each.0, one_more decided (i + 1) fs texts f text each.1 (subst (λ j. IsWholeReply f (decided j) text) (further i (length fs)) is))
  where
    further : (a n : ℕ) → a + suc n ≡ (a + 1) + n
    further a n = omega arith

pub concat_push : (texts : List Bytes) (text : Bytes) → concat (texts ++ text ∷ []) ≡ concat texts ++ text
concat_push [] text = append-nil text
concat_push (t ∷ texts) text = ap (λ l. t ++ l) (concat_push texts text) ∙ sym (append_assoc t (concat texts) text)

from_first : (a b : ℕ) → a ≡ b → 0 + a ≡ b
from_first a b is = omega arith

pub next_story : {instances : List Instance} {next_instance : ℕ} (told : Told) (c : Client) → c.closes ≡ false → is_said c ≡ true → Story instances next_instance told c → Story instances next_instance told (next_request c)
next_story {instances} {next_instance} told c goes_on is story = record {
  requests = story.requests ++ c.front ∷ [];
  count = length-append story.requests (c.front ∷ []) ∙ ap (λ n. n + 1) story.count;
  replies = story.replies ++ story.last ∷ [];
  each = one_more told.decided 0 story.requests story.replies c.front story.last story.each (subst (λ i. IsWholeReply c.front (told.decided i) story.last) (sym (from_first (length story.requests) c.index story.count)) whole);
  last = [];
  all = story.all ∙ sym (concat_push story.replies story.last) ∙ sym (append-nil (concat (story.replies ++ story.last ∷ [])));
  place = place_next told.heard story.requests c (has_one instances next_instance (told.decided c.index) c story.last (said_whole c is) story.now) (end_known c.front whole.decision whole.head whole.body whole.is) story.place;
  now = undecided refl refl refl;
}
  where
    whole : IsWholeReply c.front (told.decided c.index) story.last
    whole = whole_reply instances next_instance (told.decided c.index) c story.last goes_on (said_whole c is) story.now

-- ---- the walk over clients

next-orderly : {n : ℕ} {told : Told} (c : Client) (s : State) → IsIn c s.clients → c.closes ≡ false → is_said c ≡ true → Orderly n told s → Orderly n told (on_client c.number next_request s)
unfolding on_client
next-orderly {n} {told} c s there goes_on is h =
    changed_orderly told s (is_client c.number) next_request (λ d. (next_request-same d).number)
    (λ d i hit number story.
    let eq : d ≡ c = one_of client_number s.clients d c (order_of h).rise i there (same_number d.number c.number hit) in
    next_story told d (ap (λ (x : Client). x.closes) eq ∙ goes_on) (subst (λ (x : Client). is_said x ≡ true) (sym eq) is) story)
    (λ d i isnt number story. story) (order_of h).absent (order_of h).sofar h

end_reply-orderly : {n : ℕ} {told : Told} (c : Client) (s : State) → IsIn c s.clients → is_said c ≡ true → Orderly n told s → Orderly n told (end_reply c s)
unfolding end_reply
end_reply-orderly {n} {told} c s there is h = by c.closes refl
  where
    next : State
    next = on_client c.number next_request s

    by : (closes : Bool) → c.closes ≡ closes → Orderly n told (elim closes as (λ x. State) [
      | true ↦ close_client c.number false s
      | false ↦ swept (forsake (is_of c.number) (on_client c.number next_request s))
    ])
    by true ends = quiet_orderly s _ (close_client-quiet c.number false s (quiet_same s)) h
    by false goes_on = quiet_orderly next _ (swept-quiet _ (forsake-quiet (is_of c.number) next (quiet_same next))) (next-orderly c s there goes_on is h)

end_said-orderly : {n : ℕ} {told : Told} (c : Client) (s : State) → IsIn c s.clients → Orderly n told s → Orderly n told (end_said c s)
unfolding end_said
end_said-orderly {n} {told} c s there h = by (is_said c && not c.is_closing) refl
  where
    by : (t : Bool) → (is_said c && not c.is_closing) ≡ t → Orderly n told (elim t as (λ x. State) [ true ↦ end_reply c s | false ↦ s ])
    by true is = end_reply-orderly c s there (first_holds (is_said c) (not c.is_closing) is) h
    by false is = h

each_client-orderly : {n : ℕ} {told : Told} (f : Client → State → State) → ((c : Client) (s : State) → IsIn c s.clients → Orderly n told s → Orderly n told (f c s)) → (ns : List ℕ) (s : State) → Orderly n told s → Orderly n told (each_client f ns s)
unfolding each_client
each_client-orderly f each [] s h = h
each_client-orderly {n} {told} f each (m ∷ ms) s h = each_client-orderly f each ms _ (by (client s m) refl)
  where
    by : (o : Option Client) → client s m ≡ o → Orderly n told (elim o as (λ x. State) [ None ↦ s | Some c ↦ f c s ])
    by None is = h
    by (Some c) is = each c s (in_find (is_client m) c s.clients is).0 h

pub end_replies-orderly : {n : ℕ} {told : Told} (s : State) → Orderly n told s → Orderly n told (end_replies s)
unfolding end_replies
end_replies-orderly s h =
    each_client-orderly close_finished (λ c t there ht. quiet_orderly t _ (close_finished-quiet c t (quiet_same t)) ht) _ _ (each_client-orderly end_said (λ c t there. end_said-orderly c t there) _ s h)
