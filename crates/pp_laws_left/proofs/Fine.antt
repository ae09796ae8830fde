-- What is kept of a client: of its reply, and of a place where no head is.
use Rattle.std.proofs.Common.{◌≡◌, refl, ◌≤◌, nat_lt, Bool, true, is_some, map, filter, Option, Some, None, sym, subst, ap, ◌∙◌}
use Rattle.pp_law.specs.Lists.{change, is_some_with}
use Rattle.pp_law.specs.Requests.{Front, Parsed, NoHeadYet, NoHead, IsRequest, parsed_in}
use Rattle.pp_law.specs.Stages.{is_passing, is_undecided}
use Rattle.pp_law.specs.State.{State, Client, Reply, Stage, Undecided, Waiting, Passing, Answering}
use Rattle.pp_laws.specs.Runs.{IsIn}
use Rattle.pp_laws.proofs.Lists.{Changed, From, in_change, in_filter, in_map, other, same}
use Rattle.pp_laws_replies.proofs.Quiet.{FactsOf, FromClient, Quietly, facts_of}

-- ---- a reply, and a place

pub record GoesOn (r : Reply) : Type 0 where
  pub even : is_passing r.decision ≡ true → r.at ≡ r.to
  pub within : r.at ≤ r.to
  pub sourced : nat_lt r.at r.to ≡ true → is_some r.source ≡ true

abbrev pub has_begun : Stage → Bool
has_begun stage = is_some_with (λ r. r.has_begun) (elim stage as (λ y. Option Reply) [ Undecided ↦ None | Waiting ↦ None | Passing ↦ None | Answering r ↦ Some r ])

-- before its head is there nothing is decided for a request but a page
pub data Places (stage : Stage) : Type 0 where
  undecided : is_undecided stage ≡ true → Places stage
  begun : has_begun stage ≡ true → Places stage

pub record Fine (c : Client) : Type 0 where
  pub reply : (r : Reply) → c.stage ≡ Answering r → GoesOn r
  pub place : parsed_in c.front ≡ None → Places c.stage

pub data AllFine (s : State) : Type 0 where
  all_fine : ((c : Client) → IsIn c s.clients → Fine c) → AllFine s

pub all_of : {s : State} → AllFine s → (c : Client) → IsIn c s.clients → Fine c
all_of (all_fine all) = all

pub one_reply : {p r : Reply} → Answering p ≡ Answering r → p ≡ r
one_reply e = cc e

-- ---- a client

-- the same request, or one where there was none
pub same_fine : (d c : Client) → ((q : Parsed) → c.front ≡ IsRequest q → d.front ≡ IsRequest q) → d.stage ≡ c.stage → Fine c → Fine d
same_fine d c front stage h = record {
  reply = λ r is. h.reply r (sym stage ∙ is);
  place = λ none. subst (λ x. Places x) (sym stage) (h.place (by c.front refl none));
}
  where
    by : (f : Front) → c.front ≡ f → parsed_in d.front ≡ None → parsed_in c.front ≡ None
    by NoHeadYet at none = ap parsed_in at
    by (NoHead status) at none = ap parsed_in at
    by (IsRequest q) at none = let both : None ≡ Some q = sym none ∙ ap parsed_in (front q at) in absurd (cc both)

-- it answers now
pub answers : (d : Client) (q : Reply) → d.stage ≡ Answering q → GoesOn q → (parsed_in d.front ≡ None → q.has_begun ≡ true) → Fine d
answers d q at goes page = record {
  reply = λ r is. subst (λ (x : Reply). GoesOn x) (one_reply (sym at ∙ is)) goes;
  place = λ none. begun (ap has_begun at ∙ page none);
}

-- ---- a state

pub quiet_fine : (o s : State) → Quietly o s → AllFine o → AllFine s
quiet_fine o s quiet h = all_fine (λ d i. by d (q.clients_from d i))
  where
    q : FactsOf o s
    q = facts_of quiet

    by : (d : Client) → FromClient o.clients d → Fine d
    by d c = same_fine d c.was (λ p asks. c.is.front ∙ asks) c.is.stage (all_of h c.was c.there)

pub changed_fine : (s : State) (p : Client → Bool) (f : Client → Client) → ((c : Client) → IsIn c s.clients → p c ≡ true → Fine c → Fine (f c)) → AllFine s → AllFine (record s { clients = change p f s.clients })
changed_fine s p f kept h = all_fine (λ d i. by d (in_change p f d s.clients i))
  where
    by : (d : Client) → Changed p f s.clients d → Fine d
    by d (same i isnt) = all_of h d i
    by d (other c i hit eq) = subst (λ (x : Client). Fine x) (sym eq) (kept c i hit (all_of h c i))

pub mapped_fine : (s : State) (f : Client → Client) → ((c : Client) → IsIn c s.clients → Fine c → Fine (f c)) → AllFine s → AllFine (record s { clients = map f s.clients })
mapped_fine s f kept h = all_fine (λ d i. by d (in_map f d s.clients i))
  where
    by : (d : Client) → From f s.clients d → Fine d
    by d r = subst (λ (x : Client). Fine x) (sym r.is) (kept r.was r.there (all_of h r.was r.there))

pub filtered_fine : (s : State) (p : Client → Bool) → AllFine s → AllFine (record s { clients = filter p s.clients })
filtered_fine s p h = all_fine (λ c i. all_of h c (in_filter p c s.clients i).0)
