-- A reply that is read from the cache shows its version, in each state behind a lawful log.
use Rattle.std.proofs.Common.{◌≡◌, ◌⊎◌, refl, ℕ, true, false, List, [], ◌++◌, Some, inl, inr, sym, subst, ap, ◌∙◌, append_assoc}
use Rattle.std.specs.List.{concat}
use Rattle.pp_world.specs.Streams.{heard as heard_of, said as said_to}
use Rattle.pp_law.specs.Lists.{Bytes}
use Rattle.pp_law.specs.Requests.{has_request}
use Rattle.pp_law.specs.State.{Client, Instance, Stage, Undecided, Waiting, Passing, Answering, Reply}
use Rattle.pp_laws_replies.specs.ByRow.{is_by_row}
use Rattle.pp_laws_replies.specs.Replies.{interim_to, taken as taken_of}
use Rattle.pp_laws_replies.specs.Shown.{IsShown, RepliesShowTheirVersion}
use Rattle.pp_laws_replies.proofs.HeardPlaces.{with_current}
use Rattle.pp_laws_replies.proofs.Stories.{Begun, Now, Story, Told, a_kept, a_page, a_passed, begun, chosen, not_passing, order_of, undecided, waiting}
use Rattle.pp_laws_replies.proofs.StoryHappenings.{orderly_at}

module _ {instances : List Instance} {next_instance : ℕ} (told : Told) (c : Client) (r : Reply) (story : Story instances next_instance told c) (stage : c.stage ≡ Answering r) (on : r.has_begun ≡ true) (by : is_by_row r.decision ≡ true) where
  shown_begun : (head body : Bytes) → told.decided c.index ≡ Some r.decision → has_request c.front ≡ true → (story.last ++ c.interim_left) ++ r.head_left ≡ (interim_to c.front ++ head) ++ body → (body ≡ []) ⊎ ((c.interim_left ≡ []) × (r.head_left ≡ [])) → Begun instances next_instance c.front c.closes r head body
      → IsShown instances told.heard told.said told.decided c r
  shown_begun head body taken has is rest (a_page status is_decided to page none end) = let both : false ≡ true = sym (ap is_by_row is_decided) ∙ by in absurd (cc both)
  shown_begun head body taken has is rest (a_passed q front is_on p end) = let both : false ≡ true = sym (not_passing r.decision by) ∙ is_on in absurd (cc both)
  shown_begun head body taken has is rest (a_kept q front is_kept k given end) = record {
    request = q;
    asks = front;
    requests = story.requests;
    are_heard = with_current told.heard story.requests c.front has story.place.current;
    replies = story.replies;
    each = story.each;
    was_decided = ap told.decided story.count ∙ taken;
    head = head;
    body = body;
    all = ap (λ l. l ++ (c.interim_left ++ r.head_left)) story.all ∙ append_assoc (concat story.replies) story.last (c.interim_left ++ r.head_left)
        ∙ ap (λ l. concat story.replies ++ l) (sym (append_assoc story.last c.interim_left r.head_left) ∙ is);
    begins = rest;
    shows = k;
  }

  none_at : (other : Stage) → c.stage ≡ other → (Answering r ≡ other → ⊥) → IsShown instances told.heard told.said told.decided c r
  none_at other at isnt = absurd (isnt (sym stage ∙ at))

  shown_now : Now instances next_instance (told.decided c.index) c story.last → IsShown instances told.heard told.said told.decided c r
  shown_now (undecided at none is) = none_at Undecided at (λ both. cc both)
  shown_now (waiting (inl at) has is) = none_at Waiting at (λ both. cc both)
  shown_now (waiting (inr at) has is) = none_at Passing at.0 (λ both. cc both)
  shown_now (chosen p at isnt_on taken has is what) =
      let both : Answering p ≡ Answering r = sym at ∙ stage in
      let eq : p ≡ r = cc in
      let off : false ≡ true = sym isnt_on ∙ ap (λ (x : Reply). x.has_begun) eq ∙ on in absurd (cc off)
  shown_now (begun p at is_on taken has head body is rest what) =
      let both : Answering p ≡ Answering r = sym at ∙ stage in
      let eq : p ≡ r = cc in
      shown_begun head body (taken ∙ ap (λ (x : Reply). Some x.decision) eq) has (ap (λ (x : Reply). (story.last ++ c.interim_left) ++ x.head_left) (sym eq) ∙ is) (subst (λ (x : Reply). (body ≡ []) ⊎ ((c.interim_left ≡ []) × (x.head_left ≡ []))) eq rest)
      (subst (λ (x : Reply). Begun instances next_instance c.front c.closes x head body) eq what)

pub replies_show : RepliesShowTheirVersion
replies_show terms log c r lawful there stage on by =
    let story = (order_of (orderly_at c.number terms log lawful)).present c there refl in
    shown_now (record { heard = heard_of c.number log; said = said_to c.number log; decided = taken_of c.number log }) c r story stage on by story.now
