-- The record of an armed callout that no service has, by its plain fields.
use Rattle.std.specs.Prelude.{◌≡◌, Bool, true, false}
use Rattle.co_record.specs.declared.carried.Carried.{Carried}
use Rattle.co_record.specs.declared.record.Record.{Record}

abbrev pub record_of : Carried → Bool → Record
record_of c processed = record {
  i = c.i;
  spec = c.spec;
  live = true;
  pending = true;
  active = c.active;
  processed = processed;
  deferred = false;
  known = c.known;
  time = c.due;
  prec = c.prec;
  func = c.func;
  arg = c.arg;
  home = c.cpu;
  made = c.made;
}

-- it is armed, and no arming waits for the end of a service
pub record IsCarried (rec : Record) : Type 0 where
  pub live : rec.live ≡ true
  pub armed : rec.pending ≡ true
  pub undeferred : rec.deferred ≡ false
