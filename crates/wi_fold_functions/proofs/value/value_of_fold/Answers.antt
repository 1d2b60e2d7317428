use Rattle.wi_fold_functions.proofs.value.value_of_fold.Goals as goal

pub returns-in-And-clause-done : goal.returns-in-And-clause-done
returns-in-And-clause-done g c = rw c.in-And.is c.and_value.ensures.done

pub returns-in-Average-clause-done : goal.returns-in-Average-clause-done
returns-in-Average-clause-done g c = rw c.in-Average.is c.average_value.ensures.done

pub returns-in-Count-clause-done : goal.returns-in-Count-clause-done
returns-in-Count-clause-done g c = rw c.in-Count.is c.count_value.ensures.done

pub returns-in-CountA-clause-done : goal.returns-in-CountA-clause-done
returns-in-CountA-clause-done g c = rw c.in-CountA.is c.count_a_value.ensures.done

pub returns-in-Max-clause-done : goal.returns-in-Max-clause-done
returns-in-Max-clause-done g c = rw c.in-Max.is c.max_value.ensures.done

pub returns-in-Min-clause-done : goal.returns-in-Min-clause-done
returns-in-Min-clause-done g c = rw c.in-Min.is c.min_value.ensures.done

pub returns-in-Or-clause-done : goal.returns-in-Or-clause-done
returns-in-Or-clause-done g c = rw c.in-Or.is c.or_value.ensures.done

pub returns-in-Product-clause-done : goal.returns-in-Product-clause-done
returns-in-Product-clause-done g c = rw c.in-Product.is c.product_value.ensures.done

pub returns-in-Sum-clause-done : goal.returns-in-Sum-clause-done
returns-in-Sum-clause-done g c = rw c.in-Sum.is c.sum_value.ensures.done
