-- Each rule is the law's.
use Rattle.std.proofs.Common.{◌≡◌, refl, ap, ◌∙◌, ℕ, Bool, true, false, not, ◌==◌, ◌&&◌, ◌||◌, Option, Some, None}
use Rattle.std.specs.Prelude.{bytes_eq, is_some, nat_le, nat_lt}
use Rattle.pp_flow.specs.Errands.{named_by}
use Rattle.pp_flow.specs.declared.entry.Aim.{Aim as EntryAim}
use Rattle.pp_flow.specs.declared.entry.Aim.TheVariants.{Own as OfItself, Hole, Pass as AsPassed}
use Rattle.pp_flow.specs.declared.errand.Kind.{Kind}
use Rattle.pp_flow.specs.declared.errand.Kind.TheVariants.{Whole, Range, Hole as AsHole, Check, Pass}
use Rattle.pp_fresh.specs.Age.{times_of}
use Rattle.pp_head.specs.Response.{Response}
use Rattle.pp_valid.specs.Conditions.{names_other_tag}
use Rattle.pp_valid.specs.Versions.{body_length, version_of}
use Rattle.pp_valid.specs.declared.version.Version.{Version}
use Rattle.pp_law.specs.Lists.{Bytes, is_some_with}
use Rattle.pp_law.specs.State.{Aim, Through, Own, Filling}
use Rattle.pp_law.specs.OwnHeads.{is_wrong_part}
use Rattle.pp_seats_law.specs.Exchanges.{is_ranged_in}
use Rattle.pp_seats_law.specs.Fates.{aim_of}
use Rattle.pp_answers.specs.Heads.{ignores_range as kind_ignores, is_full_answer as is_full, names_tag}
use Rattle.pp_answers.specs.OwnHeads.{is_wrong}
use Rattle.pp_answers.specs.Rows.{is_same_version}
use Rattle.pp_answers.specs.ThroughHeads.{is_other_length}
use Rattle.pp_heads_law.specs.Rules.{ClearsAreTheLaws, DisprovesAreTheLaws, FullAnswersAreTheLaws, IgnoresAreTheLaws, InvalidatesAreTheLaws, JoinsAreTheLaws, NamesAreTheLaws, PrivatePartsAreTheLaws, TimesAreTheLaws, VersionsAreTheLaws, WidenedIsTheLaws, WrongHeadsAreTheLaws}

-- ---- of the head alone

pub clears : ClearsAreTheLaws
clears head = refl

pub private : PrivatePartsAreTheLaws
private head = refl

other_length : (v : Version) (n : Option ℕ) → is_other_length v n ≡ is_some_with (λ m. not (m == v.length)) n
other_length v None = refl
other_length v (Some n) = refl

pub disproved : DisprovesAreTheLaws
disproved head v =
    ap (λ (b : Bool). (head.status == 404) || (head.status == 410) || ((head.status == 200) && (names_other_tag head.fields v.tag || b)))
    (other_length v (body_length head.fields))

-- ---- by what was asked

abbrev through_in : Aim → Bool
through_in aim = elim aim [ Through ↦ true | Own ↦ false | Filling v from to ↦ false ]

abbrev own_in : Aim → Bool
own_in aim = elim aim [ Through ↦ false | Own ↦ true | Filling v from to ↦ false ]

or_assoc : (a b c : Bool) → (a || (b || c)) ≡ (a || b || c)
or_assoc true b c = refl
or_assoc false b c = refl

or_false : (a : Bool) → a ≡ (a || false)
or_false true = refl
or_false false = refl

-- by the tag that its ask names
abbrev wrong_as : Aim → Option Bytes → Response → Bool
wrong_as aim named head = (head.status == 101) || (not (through_in aim) && is_wrong_part head) || (own_in aim && (head.status == 304) && not (is_some named))

wrong_by : (aim : EntryAim) (kind : Kind) (head : Response) → is_wrong aim kind head ≡ wrong_as (aim_of aim) (named_by kind) head
wrong_by OfItself kind head = or_assoc (head.status == 101) (is_wrong_part head) ((head.status == 304) && not (is_some (named_by kind)))
wrong_by (Hole v from to) kind head = or_false ((head.status == 101) || is_wrong_part head)
wrong_by AsPassed kind head = or_false ((head.status == 101) || false)

pub wrong : WrongHeadsAreTheLaws
wrong number x e head shows =
    wrong_by x.exchange.aim x.errand.kind head
    ∙ ap (λ (aim : Aim). wrong_as aim (named_by x.errand.kind) head) shows.aim
    ∙ ap (λ (named : Option Bytes). wrong_as e.aim named head) shows.named

pub versions : VersionsAreTheLaws
versions number x e head shows = ap (version_of head.fields head.status) shows.identity

pub times : TimesAreTheLaws
times number x e head shows = λ s.
    ap (λ (n : ℕ). times_of head.fields n s.clock x.errand.allows_guess) shows.requested
    ∙ ap (times_of head.fields e.requested s.clock) shows.guess

pub widened : WidenedIsTheLaws
widened number x e head shows = ap (λ (b : Bool). b && (head.status == 206)) shows.is_moved

and_assoc : (a b c : Bool) → (a && (b && c)) ≡ (a && b && c)
and_assoc true b c = refl
and_assoc false b c = refl

pub invalidated : InvalidatesAreTheLaws
invalidated number x e head shows =
    and_assoc (not x.errand.is_safe) (nat_le 200 head.status) (nat_lt head.status 400)
    ∙ ap (λ (b : Bool). not b && nat_le 200 head.status && nat_lt head.status 400) shows.is_safe

-- ---- by the version of the row too

named_as : (named : Option Bytes) (tag : Bytes) → names_tag named tag ≡ is_some_with (λ t. bytes_eq t tag) named
named_as None tag = refl
named_as (Some named) tag = refl

pub names : NamesAreTheLaws
names number x e head shows = λ v. ap (λ (named : Option Bytes). names_tag named v.tag) shows.named ∙ named_as e.named v.tag

abbrev full_as : Aim → ℕ → Bool → Bool
full_as aim status names = elim aim [ Own ↦ (status == 200) && names | Through ↦ false | Filling w from to ↦ false ]

full_by : (aim : EntryAim) (status : ℕ) (kind : Kind) (v : Version) → is_full aim status kind v ≡ full_as (aim_of aim) status (names_tag (named_by kind) v.tag)
full_by OfItself status kind v = refl
full_by (Hole w from to) status kind v = refl
full_by AsPassed status kind v = refl

pub full : FullAnswersAreTheLaws
full number x e head shows = λ v.
    full_by x.exchange.aim head.status x.errand.kind v
    ∙ ap (λ (aim : Aim). full_as aim head.status (names_tag (named_by x.errand.kind) v.tag)) shows.aim
    ∙ ap (full_as e.aim head.status) (names number x e head shows v)

pub joins : JoinsAreTheLaws
joins number x e head shows = λ v known. ap (λ (b : Bool). is_same_version v known && not b) (full number x e head shows known)

twice_not : (b : Bool) → b ≡ not (not b)
twice_not true = refl
twice_not false = refl

with_true : (b : Bool) → b ≡ (b && true)
with_true true = refl
with_true false = refl

abbrev ignores_as : Bool → ℕ → Option Bytes → Version → Bool
ignores_as ranged status named v = ranged && (status == 200) && not (is_some_with (λ tag. not (bytes_eq tag v.tag)) named)

ignores_by : (kind : Kind) (status : ℕ) (v : Version) → kind_ignores kind status v ≡ ignores_as (is_ranged_in kind) status (named_by kind) v
ignores_by Whole status v = refl
ignores_by (Range first last) status v = with_true (status == 200)
ignores_by (AsHole first last tag) status v = ap (λ (b : Bool). (status == 200) && b) (twice_not (bytes_eq tag v.tag))
ignores_by (Check tag) status v = refl
ignores_by Pass status v = refl

pub ignores : IgnoresAreTheLaws
ignores number x e head shows = λ v.
    ignores_by x.errand.kind head.status v
    ∙ ap (λ (b : Bool). ignores_as b head.status (named_by x.errand.kind) v) shows.is_ranged
    ∙ ap (λ (named : Option Bytes). ignores_as e.is_ranged head.status named v) shows.named
