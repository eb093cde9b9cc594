use Rattle.fzn_forms.proofs.typed.read.Goals as goal

pub returns-in-ConstantInteger : goal.returns-in-ConstantInteger
returns-in-ConstantInteger c = rw c.in-ConstantInteger.is c.integer.ensures

pub returns-in-ConstantIntegerArray : goal.returns-in-ConstantIntegerArray
returns-in-ConstantIntegerArray c = rw c.in-ConstantIntegerArray.is c.integers.ensures

pub returns-in-Integer : goal.returns-in-Integer
returns-in-Integer c = rw c.in-Integer.is c.scalar.ensures

pub returns-in-Boolean : goal.returns-in-Boolean
returns-in-Boolean c = rw c.in-Boolean.is c.scalar-in-Boolean.ensures

pub returns-in-IntegerArray : goal.returns-in-IntegerArray
returns-in-IntegerArray c = rw c.in-IntegerArray.is c.array.ensures

pub returns-in-BooleanArray : goal.returns-in-BooleanArray
returns-in-BooleanArray c = rw c.in-BooleanArray.is c.array-in-BooleanArray.ensures
