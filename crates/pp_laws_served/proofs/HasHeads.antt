-- A reply that begins as a turn ends has a head.
use Rattle.std.proofs.Common.{◌≡◌, refl, ℕ, Bool, true, false, not, ◌&&◌, Option, Some, None, sym, ◌∙◌}
use Rattle.pp_plan.specs.Spans.{resolved}
use Rattle.pp_reply.specs.Keeping.{is_end_known}
use Rattle.pp_reply.specs.Kept.{part_head, whole_head}
use Rattle.pp_text.specs.Bytes.{is_empty}
use Rattle.pp_world.specs.declared.note.Decision.TheVariants.{Refuse, Hit, Part, Head, NotModified, Unsatisfiable, Relay, Validate, Fetch, Pass}
use Rattle.pp_world.specs.declared.note.Decision.{Decision}
use Rattle.pp_law.specs.Lists.{Bytes}
use Rattle.pp_law.specs.Replies.{age_shown, begun_at_end, begun_by, begun_decided, begun_instance, begun_passed, begun_reply, body_head, instance_head, is_part, may_begin, passed_reply}
use Rattle.pp_law.specs.Requests.{Front, NoHeadYet, NoHead, IsRequest, Parsed, keeps_open}
use Rattle.pp_law.specs.Stages.{is_begun, is_passing, passed_of, reply_of}
use Rattle.pp_law.specs.State.{State, Client, Instance, Passed, Reply, Stage, Undecided, Waiting, Passing, Answering}
use Rattle.pp_law.specs.Table.{source_of}
use Rattle.pp_laws_served.specs.Served.{IsReply, is_by_row}

pub record HasHead (d : Client) : Type 0 where
  pub reply : Reply
  pub is : reply_of d ≡ Some reply
  pub begun : reply.has_begun ≡ true
  pub head : is_empty reply.head_left ≡ false

body_head_some : (t : State) (q : Parsed) (c : Client) (x : Instance) (span : ℕ × ℕ) → is_empty (body_head t q c x span) ≡ false
body_head_some t q c x span = by (is_part (resolved q.head.fields x.version))
  where
    by : (b : Bool) → is_empty (elim b as (λ y. Bytes) [
      | true ↦ part_head span.0 span.1 x.version.length x.fields (age_shown t c x) t.settings.name (keeps_open q)
      | false ↦ whole_head x.version.length x.fields (age_shown t c x) t.settings.name (keeps_open q)
    ]) ≡ false
    by true = refl
    by false = refl

head_some : (t : State) (q : Parsed) (c : Client) (x : Instance) (d : Decision) → is_by_row d ≡ true → is_empty (instance_head t q c x d) ≡ false
head_some t q c x (Hit from to) is = body_head_some t q c x (from, to)
head_some t q c x (Part from to) is = body_head_some t q c x (from, to)
head_some t q c x Head is = refl
head_some t q c x NotModified is = refl
head_some t q c x Unsatisfiable is = refl
head_some t q c x (Refuse status) is = absurd (cc is)
head_some t q c x Relay is = absurd (cc is)
head_some t q c x Validate is = absurd (cc is)
head_some t q c x Fetch is = absurd (cc is)
head_some t q c x Pass is = absurd (cc is)

passed_head_of : (t : State) (q : Parsed) (d : Decision) (c : Client) → is_begun c ≡ false → is_begun (begun_passed t q d c) ≡ true → HasHead (begun_passed t q d c)
passed_head_of t q d c fresh begun = by (passed_of c) begun
  where
    by : (o : Option Passed) → is_begun (elim o as (λ y. Client) [ None ↦ c | Some p ↦ record c { stage = Answering (passed_reply t q p d); closes = not (keeps_open q && is_end_known p.rule q.head.minor) } ]) ≡ true
        → HasHead (elim o as (λ y. Client) [ None ↦ c | Some p ↦ record c { stage = Answering (passed_reply t q p d); closes = not (keeps_open q && is_end_known p.rule q.head.minor) } ])
    by None at = let both : true ≡ false = sym at ∙ fresh in absurd (cc both)
    by (Some p) at = record { reply = passed_reply t q p d; is = refl; begun = refl; head = refl }

instance_head_of : (t : State) (q : Parsed) (r : Reply) (c : Client) → is_begun c ≡ false → is_by_row r.decision ≡ true → is_begun (begun_instance t q r c) ≡ true → HasHead (begun_instance t q r c)
instance_head_of t q r c fresh by_row begun = by (source_of t r) begun
  where
    may : (x : Instance) (b : Bool) → is_begun (elim b as (λ y. Client) [ true ↦ record c { stage = Answering (begun_reply t q c r x) } | false ↦ c ]) ≡ true → HasHead (elim b as (λ y. Client) [ true ↦ record c { stage = Answering (begun_reply t q c r x) } | false ↦ c ])
    may x true at = record { reply = begun_reply t q c r x; is = refl; begun = refl; head = head_some t q c x r.decision by_row }
    may x false at = let both : true ≡ false = sym at ∙ fresh in absurd (cc both)

    by : (o : Option Instance) → is_begun (elim o as (λ y. Client) [ None ↦ c | Some x ↦ elim (may_begin t r x) as (λ y. Client) [ true ↦ record c { stage = Answering (begun_reply t q c r x) } | false ↦ c ] ]) ≡ true
        → HasHead (elim o as (λ y. Client) [ None ↦ c | Some x ↦ elim (may_begin t r x) as (λ y. Client) [ true ↦ record c { stage = Answering (begun_reply t q c r x) } | false ↦ c ] ])
    by None at = let both : true ≡ false = sym at ∙ fresh in absurd (cc both)
    by (Some x) at = may x (may_begin t r x) at

pub begun_head : (t : State) (c : Client) → ((r : Reply) → c.stage ≡ Answering r → IsReply c r) → is_begun c ≡ false → is_begun (begun_at_end t c) ≡ true → HasHead (begun_at_end t c)
begun_head t c replies fresh begun = by c.is_closing c.front begun
  where
    never : is_begun c ≡ true → ⊥
    never at = let both : true ≡ false = sym at ∙ fresh in cc both

    kind : (q : Parsed) (r : Reply) → IsReply c r → r.has_begun ≡ false → (b : Bool) → is_passing r.decision ≡ b → is_begun (elim b as (λ y. Client) [ true ↦ begun_passed t q r.decision c | false ↦ begun_instance t q r c ]) ≡ true
        → HasHead (elim b as (λ y. Client) [ true ↦ begun_passed t q r.decision c | false ↦ begun_instance t q r c ])
    kind q r is off true passes at = passed_head_of t q r.decision c fresh at
    kind q r is off false kept at = instance_head_of t q r c fresh (is.decided kept off).0 at

    answer : (q : Parsed) (r : Reply) → IsReply c r → (b : Bool) → r.has_begun ≡ b → is_begun (elim b as (λ y. Client) [ true ↦ c | false ↦ begun_decided t q r c ]) ≡ true → HasHead (elim b as (λ y. Client) [ true ↦ c | false ↦ begun_decided t q r c ])
    answer q r is true on at = absurd (never at)
    answer q r is false off at = kind q r is off (is_passing r.decision) refl at

    staged : (q : Parsed) (g : Stage) → c.stage ≡ g → is_begun (elim g as (λ y. Client) [ Undecided ↦ c | Waiting ↦ c | Passing ↦ begun_passed t q Pass c | Answering r ↦ elim r.has_begun as (λ y. Client) [ true ↦ c | false ↦ begun_decided t q r c ] ]) ≡ true
        → HasHead (elim g as (λ y. Client) [ Undecided ↦ c | Waiting ↦ c | Passing ↦ begun_passed t q Pass c | Answering r ↦ elim r.has_begun as (λ y. Client) [ true ↦ c | false ↦ begun_decided t q r c ] ])
    staged q Undecided is at = absurd (never at)
    staged q Waiting is at = absurd (never at)
    staged q Passing is at = passed_head_of t q Pass c fresh at
    staged q (Answering r) is at = answer q r (replies r is) r.has_begun refl at

    by : (closing : Bool) (f : Front) → is_begun (elim closing as (λ y. Client) [ true ↦ c | false ↦ elim f as (λ y. Client) [ NoHeadYet ↦ c | NoHead status ↦ c | IsRequest q ↦ begun_by t q c ] ]) ≡ true
        → HasHead (elim closing as (λ y. Client) [ true ↦ c | false ↦ elim f as (λ y. Client) [ NoHeadYet ↦ c | NoHead status ↦ c | IsRequest q ↦ begun_by t q c ] ])
    by true f at = absurd (never at)
    by false NoHeadYet at = absurd (never at)
    by false (NoHead status) at = absurd (never at)
    by false (IsRequest q) at = staged q c.stage refl at

-- one that has begun stays
pub begun_still : (t : State) (c : Client) → is_begun c ≡ true → begun_at_end t c ≡ c
begun_still t c begun = by c.is_closing c.front
  where
    answer : (q : Parsed) (r : Reply) (b : Bool) → r.has_begun ≡ b → r.has_begun ≡ true → (elim b as (λ y. Client) [ true ↦ c | false ↦ begun_decided t q r c ]) ≡ c
    answer q r true is on = refl
    answer q r false is on = let both : false ≡ true = sym is ∙ on in absurd (cc both)

    staged : (q : Parsed) (g : Stage) → is_begun (record c { stage = g }) ≡ true → (elim g as (λ y. Client) [ Undecided ↦ c | Waiting ↦ c | Passing ↦ begun_passed t q Pass c | Answering r ↦ elim r.has_begun as (λ y. Client) [ true ↦ c | false ↦ begun_decided t q r c ] ]) ≡ c
    staged q Undecided on = absurd (cc on)
    staged q Waiting on = absurd (cc on)
    staged q Passing on = absurd (cc on)
    staged q (Answering r) on = answer q r r.has_begun refl on

    by : (closing : Bool) (f : Front) → (elim closing as (λ y. Client) [ true ↦ c | false ↦ elim f as (λ y. Client) [ NoHeadYet ↦ c | NoHead status ↦ c | IsRequest q ↦ begun_by t q c ] ]) ≡ c
    by true f = refl
    by false NoHeadYet = refl
    by false (NoHead status) = refl
    by false (IsRequest q) = staged q c.stage begun
