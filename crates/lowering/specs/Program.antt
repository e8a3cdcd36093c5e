-- What a sheet is lowered to, before it is put into words.
use Rattle.std.specs.Prelude.{List, []}
use Rattle.bytecode.specs.declared.Switch.{Switch}
use Rattle.bytecode.specs.declared.SwitchCase.{SwitchCase}
use Rattle.bytecode.specs.declared.SwitchRange.{SwitchRange}
use Rattle.lowering.specs.Code.{Code}
use Rattle.lowering.specs.Pools.{Pools}
use Rattle.lowering.specs.Out.{Out}

pub record Program : Type 0 where
  pub code : Code
  pub pools : Pools
  pub switches : List Switch
  pub cases : List SwitchCase
  pub ranges : List SwitchRange

-- an expression has no tables
unfoldable pub plain : Out → Program
plain o = record { code = o.code; pools = o.pools; switches = []; cases = []; ranges = [] }
