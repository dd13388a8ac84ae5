-- Two outcomes that a promise allows are equal: the eight numbers and every lent buffer.
use Prim.Native.Nat.{ℕ}
use mathlib.Core.Path.{◌≡◌, ap, sym, ◌∙◌}
use mathlib.Core.List.{List}
use Rattle.csp.specs.Pass.{ordinary_mode}
use Rattle.tables.proofs.Unique.{read_unique, write_unique}
use Rattle.refine.proofs.Sole.{check_unique}
use Rattle.joins.proofs.Unique.{join_unique}
use Rattle.watchdog.proofs.Sole.{watchdog_unique}
use Rattle.rhythmoxa.specs.Layout.{values, done_kind}
use Rattle.rhythmoxa.specs.Calls.{Told, ReadTold, WriteTold, PartTold, CheckTold, ShortTold, JoinTold, WatchdogTold}

-- equal answers have equal numbers
told_one :
    {A : Type 0} {numbers_of : A → List ℕ} {C D : A → Type 0} {x y : List ℕ} (p : Told numbers_of C x) (q : Told numbers_of D y) →
    p.answer ≡ q.answer → x ≡ y
told_one {numbers_of = numbers_of} p q e = p.told ∙ ap numbers_of e ∙ sym q.told

-- the numbers and one buffer
pub record Same (x y new new' : List ℕ) : Type 0 where
  pub numbers : x ≡ y
  pub buffer : new ≡ new'

-- the numbers, both workspaces and one buffer
pub record SameWork (x y left16 left16' left64 left64' new new' : List ℕ) : Type 0 where
  pub numbers : x ≡ y
  pub work16 : left16 ≡ left16'
  pub work64 : left64 ≡ left64'
  pub buffer : new ≡ new'

pub read_sole :
    (t old new new' x y : List ℕ) → ReadTold t old new x → ReadTold t old new' y → Same x y new new'
read_sole t old new new' x y p q =
    let u = read_unique t old p.answer q.answer new new' p.call q.call in
    record { numbers = told_one p q u.0; buffer = u.1 }

pub write_sole :
    (n E s : ℕ) (l old new new' x y : List ℕ) → WriteTold n E s l old new x → WriteTold n E s l old new' y → Same x y new new'
write_sole n E s l old new new' x y p q =
    let u = write_unique n E s l old p.answer q.answer new new' p.call q.call in
    record { numbers = told_one p q u.0; buffer = u.1 }

pub moves_of_sole : (t : List ℕ) (s : ℕ) (x y : List ℕ) → PartTold t s x → PartTold t s y → x ≡ y
moves_of_sole t s x y p q =
    let o = p.call.offset ∙ sym q.call.offset in
    let z = p.call.size ∙ sym q.call.size in
    p.told ∙ ap (λ (at : ℕ). values done_kind at p.answer.size 0 0) o ∙ ap (λ (n : ℕ). values done_kind q.answer.offset n 0 0) z ∙ sym q.told

pub check_sole :
    (r f : List ℕ) (mode : ℕ) (work16 work64 old left16 left64 new left16' left64' new' x y : List ℕ) →
    CheckTold r f mode work16 work64 old left16 left64 new x → CheckTold r f mode work16 work64 old left16' left64' new' y →
    SameWork x y left16 left16' left64 left64' new new'
check_sole r f mode work16 work64 old left16 left64 new left16' left64' new' x y p q =
    let u = check_unique r f mode work16 work64 old p.answer q.answer left16 left64 new left16' left64' new' p.call q.call in
    record { numbers = told_one p q u.answer; work16 = u.work16; work64 = u.work64; buffer = u.trace }

-- the short form's promise is the check's in one mode
pub short_sole :
    (r f work16 work64 old left16 left64 new left16' left64' new' x y : List ℕ) →
    ShortTold r f work16 work64 old left16 left64 new x → ShortTold r f work16 work64 old left16' left64' new' y →
    SameWork x y left16 left16' left64 left64' new new'
short_sole r f = check_sole r f ordinary_mode

pub join_sole :
    (first second : List ℕ) (X : ℕ) (old new new' x y : List ℕ) → JoinTold first second X old new x →
    JoinTold first second X old new' y → Same x y new new'
join_sole first second X old new new' x y p q =
    let u = join_unique first second X old p.answer q.answer new new' p.call q.call in
    record { numbers = told_one p q u.0; buffer = u.1 }

pub watchdog_sole :
    (r work16 work64 old left16 left64 new left16' left64' new' x y : List ℕ) →
    WatchdogTold r work16 work64 old left16 left64 new x → WatchdogTold r work16 work64 old left16' left64' new' y →
    SameWork x y left16 left16' left64 left64' new new'
watchdog_sole r work16 work64 old left16 left64 new left16' left64' new' x y p q =
    let u =
    watchdog_unique r work16 work64 old p.answer q.answer left16 left16' left64 left64' new new' p.call q.call in
    record { numbers = told_one p q u.answer; work16 = u.left16; work64 = u.left64; buffer = u.new }
