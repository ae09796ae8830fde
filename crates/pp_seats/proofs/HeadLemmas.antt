-- What is kept of a head, by what stands at the front.
use Rattle.std.proofs.Common.{◌≡◌, ◌⊎◌, inl, inr, refl, subst, ℕ, List, Option, Some, None, Ok, Err}
use Rattle.pp_client.specs.Requests.{Front as Heading, Nothing, Begun, Asked as IsAsked, Refused}
use Rattle.pp_head.specs.Request.{Request}
use Rattle.pp_target.specs.Key.{key_at, key_in}
use Rattle.pp_target.specs.declared.target.TargetFault.{TargetFault}
use Rattle.pp_target.specs.declared.target.TargetFault.TheVariants.{NotAbsolute, NotHttp, BadHost, BadPort, TooLong, OutOfMemory}
use Rattle.pp_seats.specs.Heads.{IsFrontOf, IsKeptOf, IsKeyed, status_of}
use Rattle.pp_seats.specs.declared.front.Asked.{Asked}
use Rattle.pp_seats.specs.declared.front.Front.TheVariants.{NoHeadYet, NoHead, Request as IsThere}
use Rattle.pp_seats.specs.declared.key.Key.{Key}

pub keyed_well : (key : Key) (target : List ℕ) (framing : Option ℕ) → key_at target ≡ Ok (key_in key.text.items key.place) → IsKeyed (Some key) framing target framing
keyed_well key target framing is = (is, refl)

pub keyed_by : (fault : TargetFault) (target : List ℕ) (framing : Option ℕ) → (fault ≡ OutOfMemory) ⊎ (key_at target ≡ Err fault) → IsKeyed None (Some (status_of fault)) target framing
keyed_by OutOfMemory target framing is = inr refl
keyed_by NotAbsolute target framing (inr is) = inl (NotAbsolute, is, refl)
keyed_by NotHttp target framing (inr is) = inl (NotHttp, is, refl)
keyed_by BadHost target framing (inr is) = inl (BadHost, is, refl)
keyed_by BadPort target framing (inr is) = inl (BadPort, is, refl)
keyed_by TooLong target framing (inr is) = inl (TooLong, is, refl)
keyed_by NotAbsolute target framing (inl is) = absurd (cc is)
keyed_by NotHttp target framing (inl is) = absurd (cc is)
keyed_by BadHost target framing (inl is) = absurd (cc is)
keyed_by BadPort target framing (inl is) = absurd (cc is)
keyed_by TooLong target framing (inl is) = absurd (cc is)

pub nothing_is : (heading : Heading) → Nothing ≡ heading → IsFrontOf NoHeadYet heading
nothing_is heading is = subst (IsFrontOf NoHeadYet) is tt

pub begun_is : (heading : Heading) → Begun ≡ heading → IsFrontOf NoHeadYet heading
begun_is heading is = subst (IsFrontOf NoHeadYet) is tt

pub refused_is : (status : ℕ) (heading : Heading) → Refused status ≡ heading → IsFrontOf (NoHead status) heading
refused_is status heading is = subst (IsFrontOf (NoHead status)) is refl

pub request_is : (asked : Asked) (head : Request) (framing : Option ℕ) (heading : Heading) → IsAsked head framing ≡ heading → IsKeptOf asked head framing → IsFrontOf (IsThere asked) heading
request_is asked head framing heading is kept = subst (IsFrontOf (IsThere asked)) is kept
