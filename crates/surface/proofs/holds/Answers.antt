use native.Mathlib.Omega.{arith}
use Rattle.surface.specs.Table1.{holds}
use Rattle.surface.proofs.holds.Goals as goal

pub returns-in-Always : goal.returns-in-Always
unfolding holds
returns-in-Always c = grind arith

pub returns-in-NotSlippery : goal.returns-in-NotSlippery
unfolding holds
returns-in-NotSlippery c = grind arith

pub returns-in-Slippery : goal.returns-in-Slippery
unfolding holds
returns-in-Slippery c = grind arith

pub returns-in-DepthTo : goal.returns-in-DepthTo
unfolding holds
returns-in-DepthTo c = grind arith

pub returns-in-DepthOver : goal.returns-in-DepthOver
unfolding holds
returns-in-DepthOver c = grind arith

pub returns-in-TemperatureTo : goal.returns-in-TemperatureTo
unfolding holds
returns-in-TemperatureTo c = grind arith

pub returns-in-TemperatureOver : goal.returns-in-TemperatureOver
unfolding holds
returns-in-TemperatureOver c = grind arith
