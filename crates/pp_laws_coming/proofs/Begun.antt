-- Replies that begin keep it.
use Rattle.std.proofs.Common.{◌≡◌, refl, ℕ, ◌≤◌, Bool, true, false, not, ◌&&◌, ◌||◌, List, [], ◌∷◌, map, Option, Some, None, inl, inr, sym, subst, ap, ◌∙◌, le_refl}
use Rattle.std.specs.List.{list_any}
use Rattle.pp_target.specs.Key.{Key}
use Rattle.pp_world.specs.declared.note.Decision.TheVariants.{Pass}
use Rattle.pp_world.specs.declared.note.Decision.{Decision}
use Rattle.pp_law.specs.Connections.{is_for}
use Rattle.pp_law.specs.Lists.{is_some_with, is_this}
use Rattle.pp_law.specs.Replies.{begin_replies, begins, begun_at_end, begun_by, begun_decided, begun_instance, begun_passed, begun_reply, is_outrun, may_begin, passed_reply}
use Rattle.pp_law.specs.Requests.{Front, Parsed, NoHeadYet, NoHead, IsRequest, key_in, keeps_open}
use Rattle.pp_law.specs.Stages.{is_begun, is_headed, is_passing, passed_of}
use Rattle.pp_law.specs.State.{State, Awaited, Brought, Useless, Joins, Passes, TooWide, Client, Exchange, Instance, Passed, Reply, Stage, Undecided, Waiting, Passing, Answering}
use Rattle.pp_law.specs.Table.{source_of}
use Rattle.pp_reply.specs.Keeping.{is_end_known}
use Rattle.pp_laws.specs.Runs.{IsIn}
use Rattle.pp_laws.proofs.Tests.{first_holds, same_number, second_holds}
use Rattle.pp_laws_turn.proofs.Rows.{swept-keeps}
use Rattle.pp_laws_turn.proofs.Same.{begun_at_end-same}
use Rattle.pp_laws_turn.proofs.View.{Holds, SameClient, facts_of}
use Rattle.pp_laws_coming.specs.Coming.{Waits, is_waiting, may_have_ask}
use Rattle.pp_laws_coming.proofs.Alone.{MayLeave}
use Rattle.pp_laws_coming.proofs.Asks.{early_fills}
use Rattle.pp_laws_coming.proofs.Clients.{all_clients-comes, forsake-comes}
use Rattle.pp_laws_coming.proofs.Facts.{Early, rows}
use Rattle.pp_laws_coming.proofs.Stays.{Goes, passed_in}

-- ---- replies begin

passed_none : (c : Client) → c.brought ≡ Awaited → passed_of c ≡ None
passed_none c is = ap (λ (b : Brought). elim b as (λ x. Option Passed) [ Awaited ↦ None | Useless ↦ None | Joins id plain ↦ None | Passes p ↦ Some p | TooWide ↦ None ]) is

begun_when : (s : State) (r : Parsed) (d : Decision) (c : Client) → c.brought ≡ Awaited → begun_passed s r d c ≡ c
begun_when s r d c is =
    ap (λ (o : Option Passed). elim o as (λ x. Client) [ None ↦ c | Some p ↦ record c { stage = Answering (passed_reply s r p d); closes = not (keeps_open r && is_end_known p.rule r.head.minor) } ]) (passed_none c is)

-- who waits, and was brought nothing, begins nothing
still_by : (s : State) (r : Parsed) (c : Client) (stage : Stage) → is_waiting stage ≡ true → c.brought ≡ Awaited
    → (elim stage as (λ x. Client) [ Undecided ↦ c | Waiting ↦ c | Passing ↦ begun_passed s r Pass c | Answering reply ↦ elim reply.has_begun as (λ x. Client) [ true ↦ c | false ↦ begun_decided s r reply c ] ]) ≡ c
still_by s r c Undecided is none = refl
still_by s r c Waiting is none = refl
still_by s r c Passing is none = begun_when s r Pass c none
still_by s r c (Answering reply) is none = absurd (cc is)

still_begun : (s : State) (c : Client) → Waits c → begun_at_end s c ≡ c
still_begun s c w = by c.is_closing
  where
    at : (front : Front) → (elim front as (λ x. Client) [ NoHeadYet ↦ c | NoHead status ↦ c | IsRequest r ↦ begun_by s r c ]) ≡ c
    at NoHeadYet = refl
    at (NoHead status) = refl
    at (IsRequest r) = still_by s r c c.stage w.stage w.brought

    by : (b : Bool) → (elim b as (λ x. Client) [ true ↦ c | false ↦ elim c.front as (λ x. Client) [ NoHeadYet ↦ c | NoHead status ↦ c | IsRequest r ↦ begun_by s r c ] ]) ≡ c
    by true = refl
    by false = at c.front

-- and of no other what was brought, or its number, changes
record Keeps (d c : Client) : Type 0 where
  number : d.number ≡ c.number
  brought : d.brought ≡ c.brought
  stands : may_have_ask c.stage ≡ true → may_have_ask d.stage ≡ true
  answers : is_waiting c.stage ≡ false → is_waiting d.stage ≡ false
  left : d.body_left ≡ c.body_left

keeps_it : (c : Client) → Keeps c c
keeps_it c = record { number = refl; brought = refl; stands = λ is. is; answers = λ off. off; left = refl }

passed_keeps : (s : State) (r : Parsed) (d : Decision) (c : Client) → Keeps (begun_passed s r d c) c
passed_keeps s r d c = by (passed_of c)
  where
    by : (o : Option Passed) → Keeps (elim o as (λ x. Client) [ None ↦ c | Some p ↦ record c { stage = Answering (passed_reply s r p d); closes = not (keeps_open r && is_end_known p.rule r.head.minor) } ]) c
    by None = keeps_it c
    by (Some p) = record { number = refl; brought = refl; stands = λ is. refl; answers = λ off. refl; left = refl }

instance_keeps : (s : State) (r : Parsed) (reply : Reply) (c : Client) → Keeps (begun_instance s r reply c) c
instance_keeps s r reply c = by (source_of s reply)
  where
    at : (x : Instance) (b : Bool) → Keeps (elim b as (λ y. Client) [ true ↦ record c { stage = Answering (begun_reply s r c reply x) } | false ↦ c ]) c
    at x true = record { number = refl; brought = refl; stands = λ is. refl; answers = λ off. refl; left = refl }
    at x false = keeps_it c

    by : (o : Option Instance) → Keeps (elim o as (λ y. Client) [ None ↦ c | Some x ↦ elim (may_begin s reply x) as (λ y. Client) [ true ↦ record c { stage = Answering (begun_reply s r c reply x) } | false ↦ c ] ]) c
    by None = keeps_it c
    by (Some x) = at x (may_begin s reply x)

decided_keeps : (s : State) (r : Parsed) (reply : Reply) (c : Client) → Keeps (begun_decided s r reply c) c
decided_keeps s r reply c = by (is_passing reply.decision)
  where
    by : (b : Bool) → Keeps (elim b as (λ y. Client) [ true ↦ begun_passed s r reply.decision c | false ↦ begun_instance s r reply c ]) c
    by true = passed_keeps s r reply.decision c
    by false = instance_keeps s r reply c

stage_keeps : (s : State) (r : Parsed) (c : Client) (stage : Stage)
    → Keeps (elim stage as (λ x. Client) [ Undecided ↦ c | Waiting ↦ c | Passing ↦ begun_passed s r Pass c | Answering reply ↦ elim reply.has_begun as (λ x. Client) [ true ↦ c | false ↦ begun_decided s r reply c ] ]) c
stage_keeps s r c Undecided = keeps_it c
stage_keeps s r c Waiting = keeps_it c
stage_keeps s r c Passing = passed_keeps s r Pass c
stage_keeps s r c (Answering reply) = by reply.has_begun
  where
    by : (b : Bool) → Keeps (elim b as (λ x. Client) [ true ↦ c | false ↦ begun_decided s r reply c ]) c
    by true = keeps_it c
    by false = decided_keeps s r reply c

begun_keeps : (s : State) (c : Client) → Keeps (begun_at_end s c) c
begun_keeps s c = by c.is_closing
  where
    at : (front : Front) → Keeps (elim front as (λ x. Client) [ NoHeadYet ↦ c | NoHead status ↦ c | IsRequest r ↦ begun_by s r c ]) c
    at NoHeadYet = keeps_it c
    at (NoHead status) = keeps_it c
    at (IsRequest r) = stage_keeps s r c c.stage

    by : (b : Bool) → Keeps (elim b as (λ x. Client) [ true ↦ c | false ↦ elim c.front as (λ x. Client) [ NoHeadYet ↦ c | NoHead status ↦ c | IsRequest r ↦ begun_by s r c ] ]) c
    by true = keeps_it c
    by false = at c.front

abbrev pub whole_in : Brought → Bool
whole_in b = is_some_with (λ p. p.pipe.is_finished) (elim b as (λ x. Option Passed) [ Awaited ↦ None | Useless ↦ None | Joins id plain ↦ None | Passes p ↦ Some p | TooWide ↦ None ])

-- its request is the same
pub front_same : (d c : Client) → SameClient d c → (key : Key) → key_in c.front ≡ Some key → key_in d.front ≡ Some key
front_same d c kept key is = by c.front refl
  where
    by : (front : Front) → c.front ≡ front → key_in d.front ≡ Some key
    by NoHeadYet at = let both : None ≡ Some key = sym (ap key_in at) ∙ is in absurd (cc both)
    by (NoHead status) at = let both : None ≡ Some key = sym (ap key_in at) ∙ is in absurd (cc both)
    by (IsRequest r) at = ap key_in (kept.request r at) ∙ sym (ap key_in at) ∙ is

begun_goes : (s : State) (c : Client) → Goes (begun_at_end s c) c
begun_goes s c = record {
  stays = record { stands = λ is. (begun_keeps s c).stands is; number = (begun_keeps s c).number; source = (begun_at_end-same s c).source; front = front_same _ c (begun_at_end-same s c); untold = λ none. ap passed_in (begun_keeps s c).brought ∙ none };
  waits = λ w. subst (λ (x : Client). Waits x) (sym (still_begun s c w)) w;
  coming = λ is. ap whole_in (begun_keeps s c).brought ∙ is;
  answers = λ off. (begun_keeps s c).answers off;
  left = λ key is. subst (λ n. c.body_left ≤ n) (sym (begun_keeps s c).left) (le_refl c.body_left);
}

any_in : (p : Client → Bool) (cs : List Client) → list_any p cs ≡ true → (c : Client) × IsIn c cs × (p c ≡ true)
any_in p [] is = absurd (cc is)
any_in p (c ∷ cs) is = by (p c) refl is (λ at. any_in p cs at)
  where
    by : (b : Bool) → p c ≡ b → (b || list_any p cs) ≡ true → (list_any p cs ≡ true → (d : Client) × IsIn d cs × (p d ≡ true)) → (d : Client) × IsIn d (c ∷ cs) × (p d ≡ true)
    by true hit at rest = (c, inl refl, hit)
    by false off at rest = let w = rest at in (w.0, inr w.1, w.2)

waiting_none : (stage : Stage) → is_waiting stage ≡ true → is_some_with (λ (r : Reply). r.has_begun) (elim stage as (λ y. Option Reply) [ Undecided ↦ None | Waiting ↦ None | Passing ↦ None | Answering r ↦ Some r ]) ≡ false
waiting_none Undecided is = refl
waiting_none Waiting is = refl
waiting_none Passing is = refl
waiting_none (Answering r) is = absurd (cc is)

not_so : (t : Bool) → not t ≡ true → t ≡ false
not_so true is = absurd (cc is)
not_so false is = refl

pub begin_replies-comes : (s : State) → Holds Early s → Holds Early (begin_replies s)
unfolding begin_replies
begin_replies-comes s h =
    swept-keeps rows _ (forsake-comes (is_outrun s) (record s { clients = map (begun_at_end s) s.clients }) may (all_clients-comes (begun_at_end s) s (begun_goes s) h))
  where
    is_its : (n : ℕ) (o : Option ℕ) → is_this n o ≡ true → o ≡ Some n
    is_its n None is = absurd (cc is)
    is_its n (Some m) is = ap (λ k. Some k) (same_number m n is)

    -- one whose client begins is headed, or fills a hole
    may : (e : Exchange) → IsIn e s.exchanges → is_outrun s e ≡ true → MayLeave false e
    may e i outrun counts nowhere =
        let w = any_in (λ c. is_for e c && begins s c) s.clients (second_holds (not (is_headed e)) (list_any (λ c. is_for e c && begins s c) s.clients) outrun) in
        let unheaded : is_headed e ≡ false = not_so (is_headed e) (first_holds (not (is_headed e)) (list_any (λ c. is_for e c && begins s c) s.clients) outrun) in
        let waits : Waits w.0 = ((facts_of h).told e w.0.number w.0 i w.1 (is_its w.0.number e.asker (first_holds (is_for e w.0) (begins s w.0) w.2)) refl (λ none. cc none)).waits (early_fills e counts) unheaded in
        let none : is_begun (begun_at_end s w.0) ≡ false = ap is_begun (still_begun s w.0 waits) ∙ waiting_none w.0.stage waits.stage in
        let begun : is_begun (begun_at_end s w.0) ≡ true = second_holds (not (is_begun w.0)) (is_begun (begun_at_end s w.0)) (second_holds (is_for e w.0) (begins s w.0) w.2) in
        let both : true ≡ false = sym begun ∙ none in
        cc both
