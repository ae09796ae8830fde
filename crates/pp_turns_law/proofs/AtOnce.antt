-- Replies begin one behind the other as they begin all at once.
use Rattle.std.proofs.Common.{◌≡◌, ◌⊎◌, inl, inr, refl, sym, ap, ap₂, ◌∙◌, ℕ, Bool, true, false, not, ◌==◌, ◌&&◌, map, List, Option, Some, None}
use Rattle.std.specs.List.{list_any}
use Rattle.pp_law.specs.Closing.{forsake, left_alone}
use Rattle.pp_law.specs.Connections.{is_for, on_client}
use Rattle.pp_law.specs.Lists.{change, is_some_with, is_this}
use Rattle.pp_law.specs.Replies.{begin_replies, begins, begun_at_end, begun_by, begun_decided, begun_instance, begun_passed, begun_reply, may_begin, passed_reply}
use Rattle.pp_law.specs.Requests.{Front, Parsed, NoHeadYet, NoHead, IsRequest, keeps_open}
use Rattle.pp_law.specs.Stages.{is_begun, is_headed, is_passing, passed_of}
use Rattle.pp_law.specs.State.{State, Client, Exchange, Instance, Passed, Reply, Stage, Undecided, Waiting, Passing, Answering}
use Rattle.pp_law.specs.Table.{follows, source_of, swept}
use Rattle.pp_reply.specs.Keeping.{is_end_known}
use Rattle.pp_world.specs.declared.note.Decision.{Decision}
use Rattle.pp_world.specs.declared.note.Decision.TheVariants.{Pass}
use Rattle.pp_turns_law.proofs.Each.{Each, any_none, any_same, each_of, each_so, maps_none, maps_same}

-- ---- those of whom a test holds begin, and no others

abbrev pub begun_if : (Client → Bool) → State → Client → Client
begun_if test s c = elim (test c) [ true ↦ begun_at_end s c | false ↦ c ]

abbrev pub outrun_if : (Client → Bool) → State → Exchange → Bool
outrun_if test s e = not (is_headed e) && list_any (λ c. is_for e c && (test c && begins s c)) s.clients

unfoldable pub begun_of : (Client → Bool) → State → State
begun_of test s = swept (forsake (outrun_if test s) (record s { clients = map (begun_if test s) s.clients }))

-- or one alone, of that number
abbrev pub outrun_by : State → Client → Exchange → Bool
outrun_by s c e = not (is_headed e) && (is_for e c && begins s c)

unfoldable pub begun_one : ℕ → Client → State → State
begun_one n c s = swept (forsake (outrun_by s c) (on_client n (begun_at_end s) s))

-- ---- what becomes of a client

-- it follows no more than it did
pub record IsBegun (c d : Client) : Type 0 where
  pub stage : Stage
  pub closes : Bool
  pub is : d ≡ record c { stage = stage; closes = closes }
  pub less : (id : ℕ) → follows id d ≡ true → follows id c ≡ true

itself : (c : Client) → IsBegun c c
itself c = record { stage = c.stage; closes = c.closes; is = refl; less = λ id is. is }

and_false : (b : Bool) → (b && false) ≡ true → ⊥
and_false true e = absurd (cc e)
and_false false e = absurd (cc e)

passed_is : (s : State) (r : Parsed) (d : Decision) (c : Client) → IsBegun c (begun_passed s r d c)
passed_is s r d c = by (passed_of c)
  where
    by : (o : Option Passed) → IsBegun c (elim o as (λ t. Client) [ None ↦ c | Some p ↦ record c { stage = Answering (passed_reply s r p d); closes = not (keeps_open r && is_end_known p.rule r.head.minor) } ])
    by None = itself c
    by (Some p) = record { stage = Answering (passed_reply s r p d); closes = not (keeps_open r && is_end_known p.rule r.head.minor); is = refl; less = λ id is. absurd (and_false (not c.is_closing) is) }

instance_is : (s : State) (r : Parsed) (reply : Reply) (c : Client) → c.stage ≡ Answering reply → IsBegun c (begun_instance s r reply c)
instance_is s r reply c is = by (source_of s reply)
  where
    still : (id : ℕ) (b : Bool) → (not c.is_closing && is_this id (elim b as (λ t. Option ℕ) [ true ↦ None | false ↦ reply.source ])) ≡ true → follows id c ≡ true
    still id true e = absurd (and_false (not c.is_closing) e)
    still id false e = ap (λ (t : Stage). not c.is_closing && is_some_with (λ (r : Reply). is_this id r.source) (elim t as (λ u. Option Reply) [ Undecided ↦ None | Waiting ↦ None | Passing ↦ None | Answering r ↦ Some r ])) is ∙ e

    at : (x : Instance) (b : Bool) → IsBegun c (elim b as (λ t. Client) [ true ↦ record c { stage = Answering (begun_reply s r c reply x) } | false ↦ c ])
    at x true = record { stage = Answering (begun_reply s r c reply x); closes = c.closes; is = refl; less = λ id e. still id (reply.at == reply.to) e }
    at x false = itself c

    by : (o : Option Instance) → IsBegun c (elim o as (λ t. Client) [ None ↦ c | Some x ↦ elim (may_begin s reply x) as (λ t. Client) [ true ↦ record c { stage = Answering (begun_reply s r c reply x) } | false ↦ c ] ])
    by None = itself c
    by (Some x) = at x (may_begin s reply x)

by_is : (s : State) (r : Parsed) (c : Client) → IsBegun c (begun_by s r c)
by_is s r c = at c.stage refl
  where
    decided : (reply : Reply) (b : Bool) → c.stage ≡ Answering reply → IsBegun c (elim b as (λ t. Client) [ true ↦ begun_passed s r reply.decision c | false ↦ begun_instance s r reply c ])
    decided reply true is = passed_is s r reply.decision c
    decided reply false is = instance_is s r reply c is

    answers : (reply : Reply) (b : Bool) → c.stage ≡ Answering reply → IsBegun c (elim b as (λ t. Client) [ true ↦ c | false ↦ begun_decided s r reply c ])
    answers reply true is = itself c
    answers reply false is = decided reply (is_passing reply.decision) is

    at : (t : Stage) → c.stage ≡ t
        → IsBegun c (elim t as (λ u. Client) [ Undecided ↦ c | Waiting ↦ c | Passing ↦ begun_passed s r Pass c | Answering reply ↦ elim reply.has_begun as (λ u. Client) [ true ↦ c | false ↦ begun_decided s r reply c ] ])
    at Undecided is = itself c
    at Waiting is = itself c
    at Passing is = passed_is s r Pass c
    at (Answering reply) is = answers reply reply.has_begun is

pub begun_is : (s : State) (c : Client) → IsBegun c (begun_at_end s c)
begun_is s c = by c.is_closing
  where
    at : (f : Front) → IsBegun c (elim f as (λ t. Client) [ NoHeadYet ↦ c | NoHead status ↦ c | IsRequest r ↦ begun_by s r c ])
    at NoHeadYet = itself c
    at (NoHead status) = itself c
    at (IsRequest r) = by_is s r c

    by : (b : Bool) → IsBegun c (elim b as (λ t. Client) [ true ↦ c | false ↦ elim c.front as (λ t. Client) [ NoHeadYet ↦ c | NoHead status ↦ c | IsRequest r ↦ begun_by s r c ] ])
    by true = itself c
    by false = at c.front

pub number_is : (s : State) (c : Client) → (begun_at_end s c).number ≡ c.number
number_is s c = ap (λ (d : Client). d.number) (begun_is s c).is

-- ---- the state, by its parts

abbrev with_parts : State → List Client → List Exchange → State
with_parts s cs es = swept (record s { clients = cs; exchanges = es })

by_parts : (test : Client → Bool) (s : State) → begun_of test s ≡ with_parts s (map (begun_if test s) s.clients) (change (outrun_if test s) left_alone s.exchanges)
unfolding begun_of forsake
by_parts test s = refl

pub all_at_once : (s : State) → begin_replies s ≡ begun_of (λ c. true) s
unfolding begin_replies begun_of forsake
all_at_once s = refl

-- one that stays as it is begins nothing
unfoldable never : Bool → Bool
never b = not b && b

never_is : (b : Bool) → never b ≡ false
unfolding never
never_is true = refl
never_is false = refl

pub stays_silent : (s : State) (c : Client) → begun_at_end s c ≡ c → begins s c ≡ false
unfolding never
stays_silent s c same = ap (λ (d : Client). not (is_begun c) && is_begun d) same ∙ never_is (is_begun c)

-- two tests that differ in such alone
pub same_begun : (p q : Client → Bool) (s : State) → Each (λ c. (p c ≡ q c) ⊎ (begun_at_end s c ≡ c)) s.clients → begun_of p s ≡ begun_of q s
same_begun p q s each =
    by_parts p s
    ∙ ap₂ (λ (cs : List Client) (es : List Exchange). with_parts s cs es) (maps_same (begun_if p s) (begun_if q s) s.clients (each_so (λ c. (p c ≡ q c) ⊎ (begun_at_end s c ≡ c)) (λ c. begun_if p s c ≡ begun_if q s c) s.clients begun_same each))
    (maps_same (λ (e : Exchange). elim (outrun_if p s e) as (λ t. Exchange) [ true ↦ left_alone e | false ↦ e ]) (λ (e : Exchange). elim (outrun_if q s e) as (λ t. Exchange) [ true ↦ left_alone e | false ↦ e ]) s.exchanges
    (each_of (λ (e : Exchange). (elim (outrun_if p s e) as (λ t. Exchange) [ true ↦ left_alone e | false ↦ e ]) ≡ (elim (outrun_if q s e) as (λ t. Exchange) [ true ↦ left_alone e | false ↦ e ])) s.exchanges
    (λ e. ap (λ (b : Bool). elim b as (λ t. Exchange) [ true ↦ left_alone e | false ↦ e ]) (outrun_same e))))
    ∙ sym (by_parts q s)
  where
    alike : (c : Client) (a b : Bool) → begun_at_end s c ≡ c → (elim a as (λ t. Client) [ true ↦ begun_at_end s c | false ↦ c ]) ≡ (elim b as (λ t. Client) [ true ↦ begun_at_end s c | false ↦ c ])
    alike c true true same = refl
    alike c true false same = same
    alike c false true same = sym same
    alike c false false same = refl

    begun_same : (c : Client) → (p c ≡ q c) ⊎ (begun_at_end s c ≡ c) → begun_if p s c ≡ begun_if q s c
    begun_same c (inl same) = ap (λ (b : Bool). elim b as (λ t. Client) [ true ↦ begun_at_end s c | false ↦ c ]) same
    begun_same c (inr same) = alike c (p c) (q c) same

    none : (a b x : Bool) → (x && (a && false)) ≡ (x && (b && false))
    none a b false = refl
    none true true true = refl
    none true false true = refl
    none false true true = refl
    none false false true = refl

    counts : (e : Exchange) (c : Client) → (p c ≡ q c) ⊎ (begun_at_end s c ≡ c) → (is_for e c && (p c && begins s c)) ≡ (is_for e c && (q c && begins s c))
    counts e c (inl same) = ap (λ (b : Bool). is_for e c && (b && begins s c)) same
    counts e c (inr same) =
        ap (λ (b : Bool). is_for e c && (p c && b)) (stays_silent s c same) ∙ none (p c) (q c) (is_for e c) ∙ sym (ap (λ (b : Bool). is_for e c && (q c && b)) (stays_silent s c same))

    outrun_same : (e : Exchange) → outrun_if p s e ≡ outrun_if q s e
    outrun_same e =
        ap (λ (b : Bool). not (is_headed e) && b) (any_same (λ c. is_for e c && (p c && begins s c)) (λ c. is_for e c && (q c && begins s c)) s.clients
        (each_so (λ c. (p c ≡ q c) ⊎ (begun_at_end s c ≡ c)) (λ c. (is_for e c && (p c && begins s c)) ≡ (is_for e c && (q c && begins s c))) s.clients (counts e) each))

-- where none begins, what is left over alone goes
pub none_begins : (s : State) → begun_of (λ c. false) s ≡ swept s
none_begins s =
    by_parts (λ c. false) s
    ∙ ap₂ (λ (cs : List Client) (es : List Exchange). with_parts s cs es) (maps_none (begun_if (λ c. false) s) s.clients (each_of (λ (c : Client). begun_if (λ c. false) s c ≡ c) s.clients (λ c. refl)))
    (maps_none (λ (e : Exchange). elim (outrun_if (λ c. false) s e) as (λ t. Exchange) [ true ↦ left_alone e | false ↦ e ]) s.exchanges
    (each_of (λ (e : Exchange). (elim (outrun_if (λ c. false) s e) as (λ t. Exchange) [ true ↦ left_alone e | false ↦ e ]) ≡ e) s.exchanges
    (λ e. ap (λ (b : Bool). elim b as (λ t. Exchange) [ true ↦ left_alone e | false ↦ e ]) (outrun_none e))))
  where
    false_so : (x : Bool) → (x && false) ≡ false
    false_so true = refl
    false_so false = refl

    outrun_none : (e : Exchange) → outrun_if (λ c. false) s e ≡ false
    outrun_none e =
        ap (λ (b : Bool). not (is_headed e) && b) (any_none (λ c. is_for e c && (false && begins s c)) s.clients (each_of (λ (c : Client). (is_for e c && (false && begins s c)) ≡ false) s.clients (λ c. false_so (is_for e c))))
        ∙ false_so (not (is_headed e))
