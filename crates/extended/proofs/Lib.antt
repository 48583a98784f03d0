mod Laws
mod Extremes
