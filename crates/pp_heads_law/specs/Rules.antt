-- What is read of the head of a response is what the law reads of it.
use Rattle.std.specs.Prelude.{◌≡◌, ℕ, ◌||◌}
use Rattle.pp_flow.specs.Errands.{named_by}
use Rattle.pp_flow.specs.declared.entry.Entry.{Entry}
use Rattle.pp_head.specs.Response.{Response}
use Rattle.pp_valid.specs.declared.version.Version.{Version}
use Rattle.pp_law.specs.OwnHeads.{clears_row, ignores_range, is_full_answer, is_private_part, is_widened, is_wrong_head, may_join, names_version, times_for, version_in}
use Rattle.pp_law.specs.State.{State, Exchange}
use Rattle.pp_law.specs.ThroughHeads.{disproves, invalidates}
use Rattle.pp_seats_law.specs.Exchanges.{ShowsExchange}
use Rattle.pp_answers.specs.FinalHeads.{is_widened as errand_widened, version_in as version_for}
use Rattle.pp_answers.specs.Heads.{ignores_range as kind_ignores, is_full_answer as is_full, names_tag}
use Rattle.pp_answers.specs.OwnHeads.{clears_row as head_clears, is_private_part as is_private, is_wrong}
use Rattle.pp_answers.specs.Rows.{may_join as joins, times_for as times_in}
use Rattle.pp_answers.specs.ThroughHeads.{disproves as head_disproves, invalidates as head_invalidates}

-- ---- of the head alone

abbrev pub ClearsAreTheLaws : Type 0
ClearsAreTheLaws = (head : Response) → (head_clears head || is_private head) ≡ clears_row head

abbrev pub PrivatePartsAreTheLaws : Type 0
PrivatePartsAreTheLaws = (head : Response) → is_private head ≡ is_private_part head

abbrev pub DisprovesAreTheLaws : Type 0
DisprovesAreTheLaws = (head : Response) (v : Version) → head_disproves head v ≡ disproves head v

-- ---- by what was asked

-- of each exchange of the program that shows one of the law, and each head
abbrev pub OfHeads : (Entry → Exchange → Response → Type 0) → Type 0
OfHeads P = (number : ℕ → ℕ) (x : Entry) (e : Exchange) (head : Response) → ShowsExchange number x e → P x e head

abbrev pub WrongHeadsAreTheLaws : Type 0
WrongHeadsAreTheLaws = OfHeads (λ x e head. is_wrong x.exchange.aim x.errand.kind head ≡ is_wrong_head e head)

abbrev pub VersionsAreTheLaws : Type 0
VersionsAreTheLaws = OfHeads (λ x e head. version_for x.errand head ≡ version_in e head)

abbrev pub TimesAreTheLaws : Type 0
TimesAreTheLaws = OfHeads (λ x e head. (s : State) → times_in x.errand head s.clock ≡ times_for e head s)

abbrev pub WidenedIsTheLaws : Type 0
WidenedIsTheLaws = OfHeads (λ x e head. errand_widened x.errand head ≡ is_widened e head)

abbrev pub InvalidatesAreTheLaws : Type 0
InvalidatesAreTheLaws = OfHeads (λ x e head. head_invalidates x.errand.is_safe head ≡ invalidates e head)

-- ---- by the version of the row too

abbrev pub NamesAreTheLaws : Type 0
NamesAreTheLaws = OfHeads (λ x e head. (v : Version) → names_tag (named_by x.errand.kind) v.tag ≡ names_version e v)

abbrev pub FullAnswersAreTheLaws : Type 0
FullAnswersAreTheLaws = OfHeads (λ x e head. (v : Version) → is_full x.exchange.aim head.status x.errand.kind v ≡ is_full_answer e head v)

abbrev pub JoinsAreTheLaws : Type 0
JoinsAreTheLaws = OfHeads (λ x e head. (v known : Version) → joins x.exchange.aim x.errand.kind head v known ≡ may_join e head v known)

abbrev pub IgnoresAreTheLaws : Type 0
IgnoresAreTheLaws = OfHeads (λ x e head. (v : Version) → kind_ignores x.errand.kind head.status v ≡ ignores_range e head v)
