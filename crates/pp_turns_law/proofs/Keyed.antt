-- The key of a request is the law's.
use Rattle.std.proofs.Common.{◌≡◌, inl, inr, refl, sym, ap, ◌∙◌, ℕ, false, Some, None, Option, option_map, Result, Ok, Err}
use Rattle.std.specs.Prelude.{is_ok}
use Rattle.pp_law.specs.Lists.{Bytes}
use Rattle.pp_law.specs.Requests.{Front, IsRequest, NoHead, NoHeadYet, Parsed, key_in}
use Rattle.pp_seats.specs.Dues.{refused_for, refused_in}
use Rattle.pp_seats.specs.Heads.{asked_in, owned_in}
use Rattle.pp_seats.specs.declared.front.Front.{Front as SeatFront}
use Rattle.pp_seats.specs.declared.front.Front.TheVariants.{NoHeadYet as NoneYet, NoHead as NoneThere, Request as IsThere}
use Rattle.pp_seats.specs.declared.key.Key.{Key as OwnedKey}
use Rattle.pp_seats_law.specs.Fronts.{ShowsFront, ShowsKey}
use Rattle.pp_target.specs.Key.{Key, text_of}
use Rattle.pp_target.specs.declared.target.TargetFault.{TargetFault}

abbrev law_key : Result Key TargetFault → Option Bytes
law_key key = option_map text_of (elim key as (λ t. Option Key) [ Ok k ↦ Some k | Err fault ↦ None ])

none_there : (key : Result Key TargetFault) → is_ok key ≡ false → law_key key ≡ None
none_there (Ok k) is = absurd (cc is)
none_there (Err fault) is = refl

key_same : (o : Option OwnedKey) (refusal : Option ℕ) (r : Parsed) → ShowsKey o refusal r → (refused_for refusal o ≡ Some 500 → ⊥) → law_key r.key ≡ option_map (λ (k : OwnedKey). k.text.items) o
key_same (Some key) refusal r shows given = ap law_key shows.0 ∙ ap (λ (t : Bytes). Some t) (sym key.within.spelled)
key_same None refusal r (inl none) given = none_there r.key none.0
key_same None refusal r (inr refused) given = absurd (given (ap (λ (o : Option ℕ). refused_for o None) refused))

-- unless memory was refused for it
pub keys_same : (front : SeatFront) (other : Front) → ShowsFront front other → (refused_in front ≡ Some 500 → ⊥) → option_map text_of (key_in other) ≡ option_map (λ (k : OwnedKey). k.text.items) (owned_in (asked_in front))
keys_same NoneYet NoHeadYet shows given = refl
keys_same (NoneThere status) (NoHead other) shows given = refl
keys_same (IsThere a) (IsRequest r) shows given = key_same a.key a.refusal r shows.key given
keys_same front other shows given = absurd shows
